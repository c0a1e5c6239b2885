use mathlib.Core.Path.{◌≡◌, refl, ap, ◌∙◌}
use mathlib.Core.List.{[]}
use Prim.Native.Nat.{◌≤◌, ◌-◌, ◌*◌}
use native.Mathlib.Omega.{arith}
use lib.ListN.{length}
use Rattle.laws.specs.Cells.{copied}
use Rattle.laws.proofs.Copies.{copied_none}
use Rattle.domain_end.proofs.Loops.{zero_more}
use Rattle.end_release.proofs.zero_row.Goals as goal

pub loop-k-init : goal.loop-k-init
loop-k-init c =
    (omega arith, copied_none _ _ _, refl)

pub loop-k-preserved : goal.loop-k-preserved
loop-k-preserved c =
    let l = c.loop-k in
    let a = c.args in
    (omega arith, zero_more a.t.now a.width a.i l.k l.t _ l.invariant.1 c.row_write.ensures, c.row_write.auto.t ∙ l.invariant.2)

pub shape_of-t : goal.shape_of-t
shape_of-t c =
    c.loop-k.invariant.2

pub returns : goal.returns
returns c =
    let l = c.loop-k in
    let a = c.args in
    let e : l.k ≡ a.width = omega arith in
    l.invariant.1 ∙ ap (copied a.t.now (a.width * a.i) []) e
