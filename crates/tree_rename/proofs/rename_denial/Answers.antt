use Rattle.tree_rename.proofs.rename_denial.Goals as goal

pub rename_move-requires : goal.rename_move-requires
rename_move-requires c =
    c.needs_table-needs.ensures

pub returns : goal.returns
returns c =
    rw (← c.rename_move.ensures) c.move_denial.ensures
