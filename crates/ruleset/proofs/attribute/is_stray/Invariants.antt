-- The invariant: no byte below `i` is stray.
use mathlib.Core.Path.{◌≡◌, ap}
use mathlib.Core.Bool.{false, not}
use mathlib.Core.Logic.{⊎_elim}
use Prim.Native.Nat.{◌≤◌, ◌-◌}
use native.Mathlib.Omega.{arith}
use borrow.Author.Rules.{rules}
use borrow.Author.Tests.{le-leb, lt-leb, eq-eqb, ne_eqb}
use lib.ListN.{length}
use Rattle.laws.specs.Tests.{any_below}
use Rattle.laws.proofs.Bools.{both}
use Rattle.laws.proofs.Tests.{any-start, any_more, any-done, any_found}
use Rattle.ruleset.specs.Attribute.{stray, stray_byte}
use Rattle.ruleset.proofs.attribute.is_stray.Given as goal

abbrev pub invariant-loop-i : goal.invariant-loop-i
invariant-loop-i l = (l.i ≤ length l.bytes) × (any_below (stray_byte l.bytes l.known) l.i ≡ false)

abbrev pub decreases-loop-i : goal.decreases-loop-i
decreases-loop-i l = length l.bytes - l.i
