use borrow.Author.Rules.{rules}
use Rattle.tree.specs.Entries.{put_parent}
use Rattle.tree.proofs.entries.put_parent.Goals as goal

pub returns : goal.returns
unfolding put_parent
returns c =
    cc
