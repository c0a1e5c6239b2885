use borrow.Author.Rules.{rules}
use Rattle.capi.proofs.Answers.{answers}
use Rattle.capi.proofs.skein_write_policy.Goals as goal

pub returns : goal.returns
returns c =
    let b = c.write_policy.ensures in record { answer = answers _ _ b.reply c.number.ensures; output = b.output }
