use borrow.Author.Rules.{rules}
use Rattle.capi.proofs.Answers.{answers}
use Rattle.capi.proofs.skein_close_ruleset.Goals as goal

pub returns : goal.returns
returns c =
    answers _ _ c.close_ruleset.ensures c.number.ensures
