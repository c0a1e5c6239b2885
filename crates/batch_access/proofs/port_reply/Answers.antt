use Rattle.tables.proofs.Blames.{name_stop, name_go}
use Rattle.verdict.proofs.Answers.{port-last}
use Rattle.net.specs.Port.{port_form, port_checks}
use Rattle.batch_access.proofs.port_reply.Goals as goal

pub returns-then-a-ne0 : goal.returns-then-a-ne0
unfolding port_checks port_form
returns-then-a-ne0 c =
    name_stop _ _ _ _ _ tt c.port_form-a.ensures c.if-a-ne0.true

pub returns : goal.returns
unfolding port_checks port_form
returns c =
    name_go _ _ _ _ _ tt c.port_form-a.ensures c.if-a-ne0.false (port-last _ _ _ _ _ _ _ c.thread_denial-denial.ensures c.reply.ensures)
