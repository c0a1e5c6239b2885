use Rattle.std.proofs.Common.{rules, tests}
use Rattle.sound_rules.specs.Rules.{cells_sound}
use Rattle.sound_rules.proofs.cells_sound.Goals as goal

pub returns-in-1 : goal.returns-in-1
unfolding cells_sound
returns-in-1 c =
    rw (c.in-1.is) c.path_sound.ensures

pub returns-in-2 : goal.returns-in-2
unfolding cells_sound
returns-in-2 c =
    rw (c.in-2.is) c.port_sound.ensures

pub returns-in_default : goal.returns-in_default
unfolding cells_sound
returns-in_default c =
    search (tests, rules)
