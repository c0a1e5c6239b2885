use Rattle.tables.proofs.Blames.{name_stop, name_go, name_last}
use Rattle.verdict.proofs.Answers.{entry-is, entry_stop}
use Rattle.tree.specs.Create.{remove_shape, remove_verdict, remove_later, remove_checks}
use Rattle.tree_remove.proofs.remove_checks.Goals as goal

pub returns-then-a-ne0 : goal.returns-then-a-ne0
unfolding remove_checks remove_shape remove_verdict remove_later
returns-then-a-ne0 c =
    name_stop _ _ _ _ _ tt c.remove_shape-a.ensures c.if-a-ne0.true

pub returns-then-refusal-ne0 : goal.returns-then-refusal-ne0
unfolding remove_checks remove_shape remove_verdict remove_later
returns-then-refusal-ne0 c =
    name_go _ _ _ _ _ tt c.remove_shape-a.ensures c.if-a-ne0.false
    (entry_stop _ _ _ _ _ _ _ c.remove_denial-denial.ensures c.reply.ensures _ c.refusal.ensures c.if-refusal-ne0.true)

pub returns : goal.returns
unfolding remove_checks remove_shape remove_verdict remove_later
returns c =
    name_go _ _ _ _ _ tt c.remove_shape-a.ensures c.if-a-ne0.false
    (name_go _ _ _ _ _ tt (entry-is _ _ _ _ _ _ _ c.remove_denial-denial.ensures c.refusal.ensures) c.if-refusal-ne0.false (name_last _ _ _ _ tt c.remove_later.ensures c.to.ensures))
