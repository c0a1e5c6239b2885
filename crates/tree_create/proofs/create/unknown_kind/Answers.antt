use borrow.Author.Tests.{eq-eqb, ne_eqb}
use Rattle.tree.specs.Entries.{unknown_kind}
use Rattle.tree_create.proofs.create.unknown_kind.Goals as goal

pub returns-then-k-eq0 : goal.returns-then-k-eq0
unfolding unknown_kind
returns-then-k-eq0 c =
    rw (eq-eqb _ _ c.if-k-eq0.true)

pub returns : goal.returns
unfolding unknown_kind
returns c =
    rw (ne_eqb _ _ c.if-k-eq0.false)
