use borrow.Author.Rules.{rules}
use Rattle.tables.proofs.Outcomes.{answer-refused, answer-done}
use Rattle.ruleset.specs.Create.{close_done}
use Rattle.ruleset_apply.proofs.close.Goals as goal

pub returns-then-e-ne0 : goal.returns-then-e-ne0
unfolding close_done
returns-then-e-ne0 c =
    answer-refused _ _ _ c.close_checks-e.ensures c.if-e-ne0.true

pub returns : goal.returns
unfolding close_done
returns c =
    rw c.apply_close.ensures (answer-done _ _ _ c.close_checks-e.ensures c.if-e-ne0.false)
