use borrow.Author.Rules.{rules}
use Rattle.tables.specs.Fresh.{freshened}
use Rattle.tables.proofs.Outcomes.{answer-refused}
use Rattle.tables.proofs.Freshness.{fresh-done}
use Rattle.fresh.proofs.fresh.Goals as goal

pub returns-then-e-ne0 : goal.returns-then-e-ne0
unfolding freshened
returns-then-e-ne0 c =
    answer-refused _ _ _ c.fresh_checks-e.ensures c.if-e-ne0.true

pub returns : goal.returns
unfolding freshened
returns c =
    fresh-done _ _ c.fresh_checks-e.ensures c.if-e-ne0.false c.fill.ensures
