use mathlib.Core.Bool.{not}
use mathlib.Core.Path.{ap}
use Rattle.named.proofs.Replies.{core_fails, names_decide_lem}
use Rattle.named_sound.proofs.named_sound.Goals as goal

pub returns-then-not-is_sound : goal.returns-then-not-is_sound
returns-then-not-is_sound c =
    core_fails _ c.is_sound.ensures (ap not c.if-not-is_sound.true)

pub returns : goal.returns
returns c =
    names_decide_lem _ c.is_sound.ensures (ap not c.if-not-is_sound.false) c.names_sound.ensures
