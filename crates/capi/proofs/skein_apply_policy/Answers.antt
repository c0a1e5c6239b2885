use borrow.Author.Rules.{rules}
use Rattle.capi.proofs.Answers.{answers}
use Rattle.capi.proofs.skein_apply_policy.Goals as goal

pub returns : goal.returns
returns c =
    let a = c.apply_policy.ensures in (answers _ _ a.reply c.number.ensures, a.report)
