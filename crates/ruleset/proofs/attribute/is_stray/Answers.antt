use mathlib.Core.Path.{◌≡◌, ap}
use mathlib.Core.Bool.{false, not}
use Prim.Native.Nat.{◌≤◌, ◌-◌}
use native.Mathlib.Omega.{arith}
use borrow.Author.Rules.{rules}
use borrow.Author.Tests.{le-leb, lt-leb, eq-eqb, ne_eqb}
use lib.ListN.{length}
use Rattle.laws.specs.Tests.{any_below}
use Rattle.laws.proofs.Bools.{both}
use Rattle.laws.proofs.Tests.{any-start, any_more, any-done, any_found}
use Rattle.ruleset.specs.Attribute.{stray, stray_byte}
use Rattle.ruleset.proofs.attribute.is_stray.Goals as goal
use Rattle.ruleset.proofs.attribute.is_stray.Goals.{then-i-known+else-bytes-i-ne0, else-i-known}

pub loop-i-init : goal.loop-i-init
unfolding stray stray_byte
loop-i-init c =
    (omega arith, any-start _)

pub returns-then-bytes-i-ne0 : goal.returns-then-bytes-i-ne0
unfolding stray stray_byte
returns-then-bytes-i-ne0 c =
    any_found _ _ c.loop-i.i (omega arith) (both _ _ (le-leb _ _ c.if-i-known.true) (ap not (ne_eqb _ 0 c.if-bytes-i-ne0.true)))

pub loop-i-preserved : goal.loop-i-preserved
unfolding stray stray_byte
loop-i-preserved c = (
  omega arith,
  any_more _ _ c.loop-i.invariant.1
      (elim c.if-i-known.branch [
        | then-i-known+else-bytes-i-ne0 w ↦ rw (le-leb _ _ w.if-i-known.true, eq-eqb _ 0 w.if-bytes-i-ne0.false)
        | else-i-known w ↦ rw (lt-leb _ _ w.if-i-known.false)
      ]),
)

pub returns : goal.returns
unfolding stray stray_byte
returns c =
    any-done _ _ c.loop-i.i (omega arith) (omega arith) c.loop-i.invariant.1
