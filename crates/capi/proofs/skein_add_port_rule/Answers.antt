use borrow.Author.Rules.{rules}
use Rattle.capi.proofs.Answers.{answers}
use Rattle.capi.proofs.skein_add_port_rule.Goals as goal

pub returns : goal.returns
returns c =
    answers _ _ c.add_port_rule.ensures c.number.ensures
