use mathlib.Core.Bool.{not}
use mathlib.Core.Path.{ap}
use Rattle.named.proofs.Replies.{named-unsound, looked_up_lem}
use Rattle.syscalls.proofs.lookup.Goals as goal

pub returns-then-not-named_sound : goal.returns-then-not-named_sound
returns-then-not-named_sound c =
    named-unsound _ c.named_sound.ensures _ _ (ap not c.if-not-named_sound.true)

pub returns : goal.returns
returns c =
    looked_up_lem _ _ c.named_sound.ensures (ap not c.if-not-named_sound.false) c.lookup.ensures
