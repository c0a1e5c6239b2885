use Rattle.laws.proofs.Conditions.{all-is, conditions}
use Rattle.queue.specs.Queue.{queue_sound}
use Rattle.queue.proofs.queue_sound.Goals as goal

pub returns-then-cursor : goal.returns-then-cursor
unfolding queue_sound
returns-then-cursor c =
    all-is (search conditions depth 16)

pub returns-then-requests-ne-REQUESTS_CELLS : goal.returns-then-requests-ne-REQUESTS_CELLS
unfolding queue_sound
returns-then-requests-ne-REQUESTS_CELLS c =
    all-is (search conditions depth 16)

pub returns-then-states-ne-SLOTS : goal.returns-then-states-ne-SLOTS
unfolding queue_sound
returns-then-states-ne-SLOTS c =
    all-is (search conditions depth 16)

pub returns-then-answers-ne-ANSWERS_CELLS : goal.returns-then-answers-ne-ANSWERS_CELLS
unfolding queue_sound
returns-then-answers-ne-ANSWERS_CELLS c =
    all-is (search conditions depth 16)

pub returns : goal.returns
unfolding queue_sound
returns c =
    all-is (search conditions depth 16)
