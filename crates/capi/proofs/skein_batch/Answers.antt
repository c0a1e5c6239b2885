use borrow.Author.Rules.{rules}
use Rattle.capi.proofs.Answers.{answers}
use Rattle.capi.proofs.skein_batch.Goals as goal

pub returns : goal.returns
returns c =
    let b = c.batch.ensures in record { answer = answers _ _ b.reply c.number.ensures; answers = b.answers }
