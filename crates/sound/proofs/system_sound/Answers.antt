use Rattle.laws.proofs.Conditions.{all-is, conditions}
use Rattle.sound.specs.Sound.{system_sound}
use Rattle.sound.proofs.system_sound.Goals as goal

pub returns-then-system-gt-MAX_LEVEL : goal.returns-then-system-gt-MAX_LEVEL
unfolding system_sound
returns-then-system-gt-MAX_LEVEL c =
    all-is (search conditions depth 16)

pub returns-then-next-lt1 : goal.returns-then-next-lt1
unfolding system_sound
returns-then-next-lt1 c =
    all-is (search conditions depth 16)

pub returns-then-next-gt-MAX_COUNTER : goal.returns-then-next-gt-MAX_COUNTER
unfolding system_sound
returns-then-next-gt-MAX_COUNTER c =
    all-is (search conditions depth 16)

pub returns : goal.returns
unfolding system_sound
returns c =
    all-is (search conditions depth 16)
