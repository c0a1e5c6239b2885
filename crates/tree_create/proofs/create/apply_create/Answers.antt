use borrow.Author.Rules.{rules}
use native.Mathlib.Omega.{arith}
use Rattle.tree.specs.Create.{tree_created}
use Rattle.tree_create.proofs.create.apply_create.Goals as goal

pub overflow_add-object : goal.overflow_add-object
unfolding tree_created
overflow_add-object c =
    let e = c.counter_of-object.ensures in let pre = c.requires in omega arith

pub returns : goal.returns
unfolding tree_created
returns c =
    rw (c.put_entry.ensures, c.write.ensures, c.counter_of-object.ensures, c.requires.0)
