use borrow.Author.Tests.{eq-eqb, ne_eqb}
use Rattle.verdict.proofs.kept_set.Goals as goal

pub returns-then-k-ne0 : goal.returns-then-k-ne0
returns-then-k-ne0 c =
    rw (ne_eqb _ 0 c.if-k-ne0.true)

pub returns : goal.returns
returns c =
    rw (eq-eqb _ 0 c.if-k-ne0.false)
