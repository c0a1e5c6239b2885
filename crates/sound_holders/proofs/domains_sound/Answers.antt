use Rattle.laws.proofs.Conditions.{all-is, conditions}
use Rattle.sound_domains.specs.Domains.{domains_sound}
use Rattle.sound_holders.proofs.domains_sound.Goals as goal

pub returns-then-not-threads_sound : goal.returns-then-not-threads_sound
unfolding domains_sound
returns-then-not-threads_sound c =
    all-is (search conditions depth 16)

pub returns : goal.returns
unfolding domains_sound
returns c =
    all-is (search conditions depth 16)
