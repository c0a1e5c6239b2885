use borrow.Author.Rules.{rules}
use Rattle.capi.proofs.Answers.{answers}
use Rattle.capi.proofs.skein_set_no_new_privs.Goals as goal

pub returns : goal.returns
returns c =
    answers _ _ c.set_no_new_privs.ensures c.number.ensures
