-- The invariant: every entry below `e` is live.
use Prim.Native.Nat.{◌≤◌, ◌-◌}
use mathlib.Core.Path.{◌≡◌, sym, ap, ◌∙◌}
use mathlib.Core.Bool.{false, not}
use native.Mathlib.Omega.{arith}
use Rattle.laws.specs.Tests.{any_below}
use Rattle.laws.proofs.Tests.{any-start, any_more, first_found, first-none}
use Rattle.access.specs.Limits.{max_entries}
use Rattle.tables.specs.Tables.{live}
use Rattle.tree.specs.Entries.{free_entry}
use Rattle.tree.proofs.entries.free_entry.Given as goal

abbrev pub invariant-loop-e : goal.invariant-loop-e
invariant-loop-e l = (l.e ≤ max_entries) × (any_below (λ x. not (live l.entries x)) l.e ≡ false)

abbrev pub decreases-loop-e : goal.decreases-loop-e
decreases-loop-e l = max_entries - l.e
