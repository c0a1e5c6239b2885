use borrow.Author.Rules.{rules}
use Rattle.capi.proofs.Answers.{answers}
use Rattle.capi.proofs.skein_set_admin.Goals as goal

pub returns : goal.returns
returns c =
    answers _ _ c.set_admin.ensures c.number.ensures
