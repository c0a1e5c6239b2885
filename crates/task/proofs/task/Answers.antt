use Rattle.task.proofs.Replies.{answered}
use Rattle.task.proofs.task.Goals as goal

pub returns : goal.returns
returns c =
    answered _ _ c.task_checks.ensures c.to.ensures
