use Rattle.laws.proofs.Refusals.{first-is, refusals, reads}
use Rattle.queue.specs.Queue.{post_checks}
use Rattle.queue_post.proofs.post_checks.Goals as goal

pub returns-then-not-queue_sound : goal.returns-then-not-queue_sound
unfolding post_checks
returns-then-not-queue_sound c =
    first-is (search (reads, refusals) depth 16)

pub returns-then-slot : goal.returns-then-slot
unfolding post_checks
returns-then-slot c =
    first-is (search (reads, refusals) depth 16)

pub returns-then-read-eq-WAITING : goal.returns-then-read-eq-WAITING
unfolding post_checks
returns-then-read-eq-WAITING c =
    first-is (search (reads, refusals) depth 16)

pub returns : goal.returns
unfolding post_checks
returns c =
    first-is (search (reads, refusals) depth 16)
