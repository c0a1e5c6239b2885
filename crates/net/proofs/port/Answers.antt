use Rattle.tables.proofs.Blames.{name_stop, name_go, named-asked}
use Rattle.verdict.proofs.Answers.{port-last}
use Rattle.net.specs.Port.{port_form, port_checks}
use Rattle.net.proofs.port.Goals as goal

pub returns-then-e-ne0 : goal.returns-then-e-ne0
unfolding port_checks port_form
returns-then-e-ne0 c =
    named-asked _ _ _ _ _ (name_stop _ _ _ _ _ tt c.port_form-e.ensures c.if-e-ne0.true)

pub returns : goal.returns
unfolding port_checks port_form
returns c =
    named-asked _ _ _ _ _ (name_go _ _ _ _ _ tt c.port_form-e.ensures c.if-e-ne0.false (port-last _ _ _ _ _ _ _ c.thread_denial.ensures c.reply.ensures))
