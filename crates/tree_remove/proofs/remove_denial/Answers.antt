use Rattle.tree_remove.proofs.remove_denial.Goals as goal

pub returns : goal.returns
returns c =
    rw (← c.parent_of-directory.ensures, ← c.kind_of.ensures, ← c.of_number.ensures, ← c.remove_of-right.ensures) c.thread_denial.ensures
