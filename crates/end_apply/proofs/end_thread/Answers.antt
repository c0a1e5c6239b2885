use borrow.Author.Rules.{rules}
use Rattle.tables.proofs.Outcomes.{answer-refused}
use Rattle.domain_end.proofs.Loops.{end-done}
use Rattle.end_apply.proofs.end_thread.Goals as goal

pub returns-then-e-ne0 : goal.returns-then-e-ne0
returns-then-e-ne0 c =
    answer-refused _ _ _ c.end_checks-e.ensures c.if-e-ne0.true

pub returns : goal.returns
returns c =
    end-done _ _ _ c.end_checks-e.ensures c.if-e-ne0.false c.apply_end.ensures
