-- The invariant: what the search from `at` comes to, the search from the root does.
use mathlib.Core.Path.{◌≡◌}
use Prim.Native.Nat.{ℕ, ◌-◌, ◌≤◌}
use Rattle.access.specs.Limits.{max_entries}
use Rattle.sound_objects.specs.Objects.{key_of, Found, Missed}
use Rattle.sound_objects.proofs.search.Given as goal

abbrev pub invariant-loop-object : goal.invariant-loop-object
invariant-loop-object l = ((l.at ≡ 0 → ⊥) × (l.at ≤ max_entries))
    × (((to : ℕ) → Found l.entries l.links l.object l.at l.key to → Found l.entries l.links l.object l.root (key_of l.object) to)
    × ((p : ℕ) → Missed l.entries l.links l.object l.at l.key p → Missed l.entries l.links l.object l.root (key_of l.object) p))

abbrev pub decreases-loop-object : goal.decreases-loop-object
decreases-loop-object l = max_entries - l.at
