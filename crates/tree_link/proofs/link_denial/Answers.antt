use Rattle.tree_link.proofs.link_denial.Goals as goal

pub link_move-requires : goal.link_move-requires
link_move-requires c =
    (c.needs_table-needs.ensures, c.requires)

pub returns : goal.returns
returns c =
    rw (← c.link_move.ensures) c.move_denial.ensures
