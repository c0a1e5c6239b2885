use Rattle.broker.proofs.tasks.signal.Goals as goal

pub returns : goal.returns
returns c =
    c.request.ensures
