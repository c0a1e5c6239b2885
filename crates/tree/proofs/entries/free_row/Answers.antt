use borrow.Author.Rules.{rules}
use Rattle.tree.specs.Entries.{free_row}
use Rattle.tree.proofs.entries.free_row.Goals as goal

pub returns : goal.returns
unfolding free_row
returns c =
    cc
