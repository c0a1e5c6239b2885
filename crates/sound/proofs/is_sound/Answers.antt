use mathlib.Core.Bool.{not}
use mathlib.Core.Path.{ap}
use Rattle.sound.proofs.Parts.{sound-short, sound-long}
use Rattle.sound.proofs.is_sound.Goals as goal

pub returns-then-not-lengths_right : goal.returns-then-not-lengths_right
returns-then-not-lengths_right c =
    sound-short _ c.lengths_right.ensures (ap not c.if-not-lengths_right.true)

pub returns : goal.returns
returns c =
    sound-long _ c.lengths_right.ensures (ap not c.if-not-lengths_right.false) c.parts_sound.ensures
