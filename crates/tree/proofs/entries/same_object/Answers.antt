use Rattle.tree.specs.Entries.{same_object}
use Rattle.tree.proofs.entries.same_object.Goals as goal

pub returns : goal.returns
unfolding same_object
returns c =
    rw (← c.object_of.ensures, ← c.object_of-2.ensures)
