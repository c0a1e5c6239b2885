use borrow.Author.Rules.{rules}
use Rattle.tree.specs.Entries.{replacing}
use Rattle.tree_replaced.proofs.is_over_full.Goals as goal

pub returns-in-None : goal.returns-in-None
unfolding replacing
returns-in-None c =
    rw c.in-None.is

pub returns-in-Entry : goal.returns-in-Entry
unfolding replacing
returns-in-Entry c =
    rw c.in-Entry.is c.is_full.ensures
