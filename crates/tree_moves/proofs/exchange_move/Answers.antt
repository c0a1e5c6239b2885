use Rattle.tree_moves.proofs.exchange_move.Goals as goal

pub move_of-requires : goal.move_of-requires
move_of-requires c =
    let p = c.requires in (p.0, rw c.kind_at.ensures p.1)

pub returns : goal.returns
returns c =
    rw (← c.kind_at.ensures, ← c.entry_rights-back.ensures, ← c.object_of-other.ensures) c.move_of.ensures
