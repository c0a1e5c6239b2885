use Rattle.judge.proofs.climb.own_rights.Goals as goal

pub returns : goal.returns
returns c =
    cc
