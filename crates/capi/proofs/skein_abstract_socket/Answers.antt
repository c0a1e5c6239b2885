use Rattle.capi.proofs.Answers.{answers}
use Rattle.capi.proofs.skein_abstract_socket.Goals as goal

pub returns : goal.returns
returns c =
    answers _ _ c.abstract_socket.ensures c.number.ensures
