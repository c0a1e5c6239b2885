use Rattle.tree_moves.proofs.kind_at.Goals as goal

pub returns : goal.returns
returns c =
    rw (← c.kind_of.ensures) c.of_number.ensures
