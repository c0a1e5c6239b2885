use Rattle.tree_exchange.proofs.exchange_denial.Goals as goal

pub exchange_move-requires : goal.exchange_move-requires
exchange_move-requires c =
    (c.needs_table-needs.ensures, c.requires)

pub returns : goal.returns
returns c =
    rw (← c.exchange_move.ensures) c.move_denial.ensures
