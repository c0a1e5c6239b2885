use Rattle.laws.proofs.Conditions.{all-is, conditions}
use Rattle.sound_rules.specs.Rules.{masks_known}
use Rattle.sound_rules.proofs.masks_known.Goals as goal

pub returns-then-not-contains : goal.returns-then-not-contains
unfolding masks_known
returns-then-not-contains c =
    rw (← c.known_fs.ensures) (all-is (search conditions depth 16))

pub returns-then-not-contains-2 : goal.returns-then-not-contains-2
unfolding masks_known
returns-then-not-contains-2 c =
    rw (← c.known_net.ensures, ← c.known_fs.ensures) (all-is (search conditions depth 16))

pub returns : goal.returns
unfolding masks_known
returns c =
    rw (← c.known_scope.ensures, ← c.known_net.ensures, ← c.known_fs.ensures) (all-is (search conditions depth 16))
