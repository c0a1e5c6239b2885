use borrow.Author.Rules.{rules}
use Rattle.capi.proofs.Answers.{answers}
use Rattle.capi.proofs.skein_replay.Goals as goal

pub returns : goal.returns
returns c =
    answers _ _ c.replay.ensures c.number.ensures
