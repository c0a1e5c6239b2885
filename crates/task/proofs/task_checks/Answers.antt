use Rattle.laws.proofs.Refusals.{first-is, refusals}
use Rattle.task.specs.Task.{task_checks}
use Rattle.task.proofs.task_checks.Goals as goal

pub returns-then-not-thread_live : goal.returns-then-not-thread_live
unfolding task_checks
returns-then-not-thread_live c =
    first-is (search refusals depth 16 fits 20000)

pub returns-then-not-thread_live-2 : goal.returns-then-not-thread_live-2
unfolding task_checks
returns-then-not-thread_live-2 c =
    first-is (search refusals depth 16 fits 20000)

pub returns-then-not-may_reach : goal.returns-then-not-may_reach
unfolding task_checks
returns-then-not-may_reach c =
    first-is (search refusals depth 16 fits 20000)

pub returns : goal.returns
unfolding task_checks
returns c =
    first-is (search refusals depth 16 fits 20000)
