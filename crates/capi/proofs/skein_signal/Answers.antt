use Rattle.capi.proofs.Answers.{answers}
use Rattle.capi.proofs.skein_signal.Goals as goal

pub returns : goal.returns
returns c =
    answers _ _ c.signal.ensures c.number.ensures
