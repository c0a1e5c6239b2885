use borrow.Author.Rules.{rules}
use Rattle.capi.proofs.Answers.{answers}
use Rattle.capi.proofs.skein_add_path_rule.Goals as goal

pub returns : goal.returns
returns c =
    answers _ _ c.add_path_rule.ensures c.number.ensures
