use borrow.Author.Rules.{rules}
use Rattle.capi.proofs.Answers.{tells-access}
use Rattle.capi.proofs.skein_access.Goals as goal

pub returns : goal.returns
returns c =
    let a = c.access-accessed.ensures in
    tells-access _ _ _ a.reply c.number.ensures a.read c.report_access.ensures
