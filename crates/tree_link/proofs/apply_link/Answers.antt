use borrow.Author.Rules.{rules}
use Rattle.tree.specs.Link.{linked}
use Rattle.tree_link.proofs.apply_link.Goals as goal

pub returns : goal.returns
unfolding linked
returns c =
    rw (c.put_entry.ensures, c.object_of-object.ensures, c.kind_of-kind.ensures, c.requires)
