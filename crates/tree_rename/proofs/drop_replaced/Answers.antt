use borrow.Author.Rules.{rules}
use Rattle.tree.specs.Rename.{dropped}
use Rattle.tree_rename.proofs.drop_replaced.Goals as goal

pub returns-in-None : goal.returns-in-None
unfolding dropped
returns-in-None c =
    rw c.in-None.is

pub returns-in-Entry : goal.returns-in-Entry
unfolding dropped
returns-in-Entry c =
    rw c.in-Entry.is c.free_row.ensures
