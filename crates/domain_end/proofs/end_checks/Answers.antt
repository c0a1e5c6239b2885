use Rattle.laws.proofs.Refusals.{first-is, refusals, reads}
use Rattle.domain_end.specs.End.{last_thread, end_checks}
use Rattle.domain_end.proofs.end_checks.Goals as goal

pub returns-then-not-thread_live : goal.returns-then-not-thread_live
unfolding end_checks last_thread
returns-then-not-thread_live c =
    first-is (search refusals depth 16 fits 20000)

pub returns-then-live_threads-eq1 : goal.returns-then-live_threads-eq1
unfolding end_checks last_thread
returns-then-live_threads-eq1 c =
    first-is (search (reads, refusals) depth 16 fits 20000)

pub returns : goal.returns
unfolding end_checks last_thread
returns c =
    first-is (search (reads, refusals) depth 16 fits 20000)
