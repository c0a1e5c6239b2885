use borrow.Author.Rules.{rules}
use Rattle.tables.proofs.Outcomes.{answer-refused, answer-done}
use Rattle.rule.specs.Rule.{add_done}
use Rattle.rule_apply.proofs.add_path.Goals as goal

pub returns-then-a-ne0 : goal.returns-then-a-ne0
unfolding add_done
returns-then-a-ne0 c =
    answer-refused _ _ _ c.add_path_checks-a.ensures c.if-a-ne0.true

pub returns : goal.returns
unfolding add_done
returns c =
    rw (c.apply_add.ensures, c.object_of.ensures) (answer-done _ _ _ c.add_path_checks-a.ensures c.if-a-ne0.false)
