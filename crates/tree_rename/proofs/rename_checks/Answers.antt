use Rattle.tables.proofs.Blames.{name_stop, name_go, name_last}
use Rattle.fs.specs.Move.{verdict}
use Rattle.verdict.proofs.Answers.{move-is, move_stop}
use Rattle.tree.specs.Rename.{rename_names, rename_shape, rename_verdict, rename_later, rename_checks}
use Rattle.tree_rename.proofs.rename_checks.Goals as goal

pub returns-then-a-ne0 : goal.returns-then-a-ne0
unfolding rename_checks rename_names rename_shape rename_verdict rename_later verdict
returns-then-a-ne0 c =
    name_stop _ _ _ _ _ tt c.rename_names-a.ensures c.if-a-ne0.true

pub returns-then-b-ne0 : goal.returns-then-b-ne0
unfolding rename_checks rename_names rename_shape rename_verdict rename_later verdict
returns-then-b-ne0 c =
    name_go _ _ _ _ _ tt c.rename_names-a.ensures c.if-a-ne0.false (name_stop _ _ _ _ _ tt c.rename_shape-b.ensures c.if-b-ne0.true)

pub returns-then-refusal-ne0 : goal.returns-then-refusal-ne0
unfolding rename_checks rename_names rename_shape rename_verdict rename_later verdict
returns-then-refusal-ne0 c =
    name_go _ _ _ _ _ tt c.rename_names-a.ensures c.if-a-ne0.false (name_go _ _ _ _ _ tt c.rename_shape-b.ensures c.if-b-ne0.false
    (move_stop _ _ _ _ _ _ c.rename_denial-denial.ensures c.reply.ensures _ c.refusal.ensures c.if-refusal-ne0.true))

pub returns : goal.returns
unfolding rename_checks rename_names rename_shape rename_verdict rename_later verdict
returns c =
    name_go _ _ _ _ _ tt c.rename_names-a.ensures c.if-a-ne0.false (name_go _ _ _ _ _ tt c.rename_shape-b.ensures c.if-b-ne0.false
    (name_go _ _ _ _ _ tt (move-is _ _ _ _ _ _ c.rename_denial-denial.ensures c.refusal.ensures) c.if-refusal-ne0.false (name_last _ _ _ _ tt c.rename_later.ensures c.to.ensures)))
