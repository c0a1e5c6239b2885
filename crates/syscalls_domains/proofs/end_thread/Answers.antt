use mathlib.Core.Bool.{not}
use mathlib.Core.Path.{ap}
use borrow.Author.Rules.{rules}
use Rattle.named.proofs.Replies.{lift-unsound, lift-done}
use Rattle.syscalls_domains.proofs.end_thread.Goals as goal

pub returns-then-not-names_sound : goal.returns-then-not-names_sound
returns-then-not-names_sound c =
    lift-unsound _ _ c.names_sound.ensures (ap not c.if-not-names_sound.true)

pub returns : goal.returns
returns c =
    lift-done _ _ c.names_sound.ensures (ap not c.if-not-names_sound.false) c.end_thread.ensures
