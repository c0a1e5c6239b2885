use Rattle.broker.proofs.tasks.abstract_socket.Goals as goal

pub returns : goal.returns
returns c =
    c.request.ensures
