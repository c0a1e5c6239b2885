use Rattle.capi.proofs.Answers.{answers}
use Rattle.capi.proofs.skein_lookup.Goals as goal

pub returns : goal.returns
returns c =
    answers _ _ c.lookup.ensures c.number.ensures
