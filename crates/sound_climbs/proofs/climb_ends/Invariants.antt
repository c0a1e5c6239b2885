-- The invariant: what is left of the climb decides, and the marks are its own or those of climbs that ended.
use mathlib.Core.Path.{◌≡◌}
use mathlib.Core.Bool.{true}
use Prim.Native.Nat.{◌+◌, ◌-◌, ◌<◌}
use Rattle.access.specs.Limits.{max_entries}
use Rattle.tables.specs.Tables.{live}
use Rattle.sound_tree.proofs.Marks.{Rest, Marking}
use Rattle.sound_climbs.proofs.climb_ends.Given as goal

abbrev pub invariant-loop : goal.invariant-loop
invariant-loop l = Rest l.entries l.e (max_entries - l.counter) l.at × (((l.at < max_entries) × (live l.entries l.at ≡ true)) × Marking l.entries l.e (l.e + 1) l.at l.marks)
