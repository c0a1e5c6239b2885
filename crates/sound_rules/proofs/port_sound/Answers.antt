use Rattle.laws.proofs.Conditions.{all-is, conditions}
use Rattle.sound_rules.specs.Rules.{port_sound}
use Rattle.sound_rules.proofs.port_sound.Goals as goal

pub returns-then-port-gt-MAX_PORT : goal.returns-then-port-gt-MAX_PORT
unfolding port_sound
returns-then-port-gt-MAX_PORT c =
    all-is (search conditions depth 16)

pub returns-then-is_empty : goal.returns-then-is_empty
unfolding port_sound
returns-then-is_empty c =
    all-is (search conditions depth 16)

pub returns : goal.returns
unfolding port_sound
returns c =
    all-is (search conditions depth 16)
