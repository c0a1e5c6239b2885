use borrow.Author.Rules.{rules}
use Rattle.capi.proofs.Answers.{tells}
use Rattle.capi.proofs.skein_port.Goals as goal

pub returns : goal.returns
returns c =
    tells _ _ _ c.port-reply.ensures c.number.ensures c.report_denial.ensures
