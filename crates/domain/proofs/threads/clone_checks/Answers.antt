use Rattle.laws.proofs.Refusals.{first-is, refusals, reads}
use Rattle.domain.specs.Threads.{clone_checks}
use Rattle.domain.proofs.threads.clone_checks.Goals as goal

pub returns-then-not-thread_live : goal.returns-then-not-thread_live
unfolding clone_checks
returns-then-not-thread_live c =
    first-is (search refusals depth 16 fits 20000)

pub returns-then-free_thread-ge-MAX_THREADS : goal.returns-then-free_thread-ge-MAX_THREADS
unfolding clone_checks
returns-then-free_thread-ge-MAX_THREADS c =
    first-is (search (reads, refusals) depth 16 fits 20000)

pub returns : goal.returns
unfolding clone_checks
returns c =
    first-is (search (reads, refusals) depth 16 fits 20000)
