use borrow.Author.Rules.{rules}
use Rattle.capi.proofs.Answers.{answers}
use Rattle.capi.proofs.skein_restrict.Goals as goal

pub returns : goal.returns
returns c =
    answers _ _ c.restrict.ensures c.number.ensures
