use Rattle.laws.proofs.Conditions.{all-is, conditions}
use Rattle.sound_rules.specs.Rules.{path_sound}
use Rattle.sound_rules.proofs.path_sound.Goals as goal

pub returns-then-object-next : goal.returns-then-object-next
unfolding path_sound
returns-then-object-next c =
    all-is (search conditions depth 16)

pub returns-then-is_empty : goal.returns-then-is_empty
unfolding path_sound
returns-then-is_empty c =
    all-is (search conditions depth 16)

pub returns-then-not-contains : goal.returns-then-not-contains
unfolding path_sound
returns-then-not-contains c =
    all-is (search conditions depth 16)

pub returns : goal.returns
unfolding path_sound
returns c =
    all-is (search conditions depth 16)
