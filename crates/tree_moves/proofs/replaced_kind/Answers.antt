use borrow.Author.Rules.{rules}
use Rattle.tree_moves.proofs.replaced_kind.Goals as goal

pub returns-in-Entry : goal.returns-in-Entry
returns-in-Entry c =
    rw c.in-Entry.is c.kind_at.ensures
