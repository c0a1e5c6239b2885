use borrow.Author.Rules.{rules}
use Rattle.tree.specs.Entries.{put_entry}
use Rattle.tree.proofs.entries.put_entry.Goals as goal

pub returns : goal.returns
unfolding put_entry
returns c =
    cc
