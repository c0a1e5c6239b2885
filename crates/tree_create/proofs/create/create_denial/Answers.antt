use Rattle.tree_create.proofs.create.create_denial.Goals as goal

pub returns : goal.returns
returns c =
    rw (← c.of_number.ensures, ← c.make_of-right.ensures) c.thread_denial.ensures
