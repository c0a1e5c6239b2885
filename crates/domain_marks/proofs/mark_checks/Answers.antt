use Rattle.laws.proofs.Refusals.{first-is, refusals}
use Rattle.domain.specs.Threads.{mark_checks}
use Rattle.domain_marks.proofs.mark_checks.Goals as goal

pub returns-then-not-thread_live : goal.returns-then-not-thread_live
unfolding mark_checks
returns-then-not-thread_live c =
    first-is (search refusals depth 16 fits 20000)

pub returns : goal.returns
unfolding mark_checks
returns c =
    first-is (search refusals depth 16 fits 20000)
