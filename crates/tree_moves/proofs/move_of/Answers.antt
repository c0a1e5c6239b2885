use Rattle.tree.specs.Moves.{move_of}
use Rattle.tree_moves.proofs.move_of.Goals as goal

pub asked_of-asked-requires : goal.asked_of-asked-requires
unfolding move_of
asked_of-asked-requires c =
    let p = c.requires in (p.0, rw c.kind_at.ensures p.1)

pub returns : goal.returns
unfolding move_of
returns c =
    rw (← c.parent_of-source.ensures, ← c.kind_at.ensures, ← c.asked_of-asked.ensures.0, ← c.asked_of-asked.ensures.1, ← c.object_of.ensures, ← c.entry_rights.ensures)
