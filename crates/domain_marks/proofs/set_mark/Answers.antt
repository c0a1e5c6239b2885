use borrow.Author.Rules.{rules}
use Rattle.tables.proofs.Outcomes.{answer-refused}
use Rattle.domain.proofs.Changes.{mark_done_lem}
use Rattle.domain_marks.proofs.set_mark.Goals as goal

pub returns-then-e-ne0 : goal.returns-then-e-ne0
returns-then-e-ne0 c =
    answer-refused _ _ _ c.mark_checks-e.ensures c.if-e-ne0.true

pub returns : goal.returns
returns c =
    mark_done_lem _ _ _ _ c.mark_checks-e.ensures c.if-e-ne0.false c.row_write.ensures
