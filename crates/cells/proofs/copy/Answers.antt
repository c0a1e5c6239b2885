use mathlib.Core.Path.{refl, ◌∙◌}
use native.Mathlib.Omega.{arith}
use lib.ListN.{length}
use Rattle.laws.proofs.Copies.{copied_none, copied_more, copied-past}
use Rattle.cells.proofs.copy.Goals as goal

pub returns-then-from-t : goal.returns-then-from-t
returns-then-from-t c =
    let a = c.args in copied-past a.t.now a.from a.src.now (length a.src.now) c.if-from-t.true

pub loop-i-init : goal.loop-i-init
loop-i-init c =
    (copied_none _ _ _, refl, omega arith)

pub loop-i-preserved : goal.loop-i-preserved
loop-i-preserved c =
    let l = c.loop-i in
    let a = c.args in
    (copied_more a.t.now a.from a.src.now l.i l.t _ l.invariant.0 c.write.ensures, c.write.auto.t ∙ l.invariant.1, l.invariant.2)
