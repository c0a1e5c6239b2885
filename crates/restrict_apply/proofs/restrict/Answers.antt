use borrow.Author.Rules.{rules}
use Rattle.tables.proofs.Outcomes.{answer-refused}
use Rattle.domain_restrict.proofs.Room.{roomy}
use Rattle.domain_restrict.proofs.Changes.{restrict-done}
use Rattle.restrict_apply.proofs.restrict.Goals as goal

pub returns-then-e-ne0 : goal.returns-then-e-ne0
returns-then-e-ne0 c =
    answer-refused _ _ _ c.restrict_checks-e.ensures c.if-e-ne0.true

pub apply_restrict-requires : goal.apply_restrict-requires
apply_restrict-requires c =
    roomy _ _ _ _ c.restrict_checks-e.ensures c.if-e-ne0.false

pub returns : goal.returns
returns c =
    restrict-done _ _ _ _ _ c.restrict_checks-e.ensures c.if-e-ne0.false c.apply_restrict.ensures
