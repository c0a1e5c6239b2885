use borrow.Author.Tests.{eq-eqb, ne_eqb}
use Rattle.capi.proofs.span_from.Goals as goal

pub returns-then-code-ne0 : goal.returns-then-code-ne0
returns-then-code-ne0 c =
    rw (ne_eqb _ _ c.if-code-ne0.true)

pub returns : goal.returns
returns c =
    rw (eq-eqb _ _ c.if-code-ne0.false, ← c.layer_first.ensures) c.cells_of.ensures
