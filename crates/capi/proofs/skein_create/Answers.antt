use borrow.Author.Rules.{rules}
use Rattle.capi.proofs.Answers.{tells}
use Rattle.capi.proofs.skein_create.Goals as goal

pub returns : goal.returns
returns c =
    let a = c.create-reply.ensures in
    record { answer = tells _ _ _ a.reply c.number.ensures c.report_denial.ensures; log = a.log }
