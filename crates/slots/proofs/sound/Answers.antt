use Rattle.laws.proofs.Conditions.{all-is, conditions}
use Rattle.slots.specs.Slots.{states_sound}
use Rattle.slots.proofs.sound.Goals as goal

pub returns-then-cursor-ge8 : goal.returns-then-cursor-ge8
unfolding states_sound
returns-then-cursor-ge8 c =
    all-is (search conditions depth 16)

pub returns-then-states-ne8 : goal.returns-then-states-ne8
unfolding states_sound
returns-then-states-ne8 c =
    all-is (search conditions depth 16)

pub returns : goal.returns
unfolding states_sound
returns c =
    all-is (search conditions depth 16)
