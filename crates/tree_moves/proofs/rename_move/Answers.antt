use Rattle.tree_moves.proofs.Rows.{renames}
use Rattle.tree_moves.proofs.rename_move.Goals as goal

pub move_of-requires : goal.move_of-requires
move_of-requires c =
    (c.requires, renames _ _)

pub returns : goal.returns
returns c =
    rw (← c.replaced_kind-replaced.ensures) c.move_of.ensures
