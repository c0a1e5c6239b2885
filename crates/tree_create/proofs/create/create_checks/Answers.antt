use Rattle.tables.proofs.Blames.{name_stop, name_go, name_last}
use Rattle.verdict.proofs.Answers.{entry-is, entry_stop}
use Rattle.tree.specs.Create.{create_shape, create_verdict, create_later, tree_create_checks}
use Rattle.tree_create.proofs.create.create_checks.Goals as goal

pub returns-then-a-ne0 : goal.returns-then-a-ne0
unfolding tree_create_checks create_shape create_verdict create_later
returns-then-a-ne0 c =
    name_stop _ _ _ _ _ tt c.create_shape-a.ensures c.if-a-ne0.true

pub returns-then-refusal-ne0 : goal.returns-then-refusal-ne0
unfolding tree_create_checks create_shape create_verdict create_later
returns-then-refusal-ne0 c =
    name_go _ _ _ _ _ tt c.create_shape-a.ensures c.if-a-ne0.false
    (entry_stop _ _ _ _ _ _ _ c.create_denial-denial.ensures c.reply.ensures _ c.refusal.ensures c.if-refusal-ne0.true)

pub create_later-requires : goal.create_later-requires
unfolding tree_create_checks create_shape create_verdict create_later
create_later-requires c =
    c.requires

pub returns : goal.returns
unfolding tree_create_checks create_shape create_verdict create_later
returns c =
    name_go _ _ _ _ _ tt c.create_shape-a.ensures c.if-a-ne0.false
    (name_go _ _ _ _ _ tt (entry-is _ _ _ _ _ _ _ c.create_denial-denial.ensures c.refusal.ensures) c.if-refusal-ne0.false (name_last _ _ _ _ tt c.create_later.ensures c.to.ensures))
