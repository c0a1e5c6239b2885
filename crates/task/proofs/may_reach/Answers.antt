use Rattle.task.proofs.Walks.{leaves_none}
use Rattle.task.proofs.may_reach.Goals as goal

pub returns : goal.returns
returns c =
    leaves_none _ _ _ _ _ c.right.ensures c.youngest_of.ensures c.youngest_of-2.ensures c.any_leaves.ensures
