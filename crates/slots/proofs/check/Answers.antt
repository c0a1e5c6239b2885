use Rattle.laws.proofs.Refusals.{first-is, refusals, reads}
use Rattle.slots.specs.Slots.{slot_checks}
use Rattle.slots.proofs.check.Goals as goal

pub returns-then-not-sound : goal.returns-then-not-sound
unfolding slot_checks
returns-then-not-sound c =
    first-is (search (reads, refusals) depth 16)

pub returns-then-slot-ge8 : goal.returns-then-slot-ge8
unfolding slot_checks
returns-then-slot-ge8 c =
    first-is (search (reads, refusals) depth 16)

pub returns-then-read-eq-WAITING : goal.returns-then-read-eq-WAITING
unfolding slot_checks
returns-then-read-eq-WAITING c =
    first-is (search (reads, refusals) depth 16)

pub returns : goal.returns
unfolding slot_checks
returns c =
    first-is (search (reads, refusals) depth 16)
