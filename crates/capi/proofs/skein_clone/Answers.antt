use borrow.Author.Rules.{rules}
use Rattle.capi.proofs.Answers.{answers}
use Rattle.capi.proofs.skein_clone.Goals as goal

pub returns : goal.returns
returns c =
    answers _ _ c.clone_thread.ensures c.number.ensures
