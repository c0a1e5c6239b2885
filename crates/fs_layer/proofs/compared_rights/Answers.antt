use borrow.Author.Tests.{eq-eqb, ne_eqb}
use Rattle.fs.specs.Against.{compared}
use Rattle.fs_layer.proofs.compared_rights.Goals as goal

pub returns-then-m : goal.returns-then-m
unfolding compared
returns-then-m c =
    rw (eq-eqb _ _ c.if-m.true)

pub returns : goal.returns
unfolding compared
returns c =
    rw (ne_eqb _ _ c.if-m.false) c.join.ensures
