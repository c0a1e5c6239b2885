-- The invariant: the rows below `e` are sound, and as long as a step is left, the names are unique, and in the index.
use mathlib.Core.Path.{◌≡◌, refl, ◌∙◌}
use Prim.Native.Nat.{◌≤◌, ◌-◌}
use native.Mathlib.Omega.{arith}
use borrow.Author.Rules.{rules}
use lib.ListN.{length}
use Rattle.laws.proofs.Tests.{all_none}
use Rattle.access.specs.Limits.{max_entries}
use Rattle.sound_names_chains.specs.Chains.{IsTold}
use Rattle.sound_names_chains.proofs.Index.{index_none}
use Rattle.sound_names_chains.proofs.Told.{Done, done_more, done_all, done_rows, done_fails}
use Rattle.sound_names_chains.proofs.names_by_chains.Given as goal

abbrev pub invariant-loop-e : goal.invariant-loop-e
invariant-loop-e l = ((l.e ≤ max_entries) × Done l.entries l.names l.heads l.links l.left l.e) × ((length l.heads ≡ length l.initial.heads) × (length l.links ≡ length l.initial.links))

abbrev pub decreases-loop-e : goal.decreases-loop-e
decreases-loop-e l = max_entries - l.e
