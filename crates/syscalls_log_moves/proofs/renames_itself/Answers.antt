use Rattle.syscalls_log_moves.proofs.renames_itself.Goals as goal

pub returns : goal.returns
returns c =
    rw (← c.bearer-x.ensures) c.is_same.ensures
