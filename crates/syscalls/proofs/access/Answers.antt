use mathlib.Core.Bool.{not}
use mathlib.Core.Path.{ap}
use Rattle.named.proofs.Replies.{lift-unsound, lift-done, count-unsound, count-done}
use Rattle.syscalls.proofs.access.Goals as goal

pub returns-then-not-names_sound : goal.returns-then-not-names_sound
returns-then-not-names_sound c = record { reply = lift-unsound _ _ c.names_sound.ensures (ap not c.if-not-names_sound.true); read = count-unsound _ c.names_sound.ensures _ (ap not c.if-not-names_sound.true) }

pub returns : goal.returns
returns c = record { reply = lift-done _ _ c.names_sound.ensures (ap not c.if-not-names_sound.false) c.access.ensures.reply; read = count-done _ c.names_sound.ensures _ (ap not c.if-not-names_sound.false) c.access.ensures.read }
