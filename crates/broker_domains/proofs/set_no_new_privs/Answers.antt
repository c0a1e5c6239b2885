use mathlib.Core.Bool.{not}
use mathlib.Core.Path.{ap}
use borrow.Author.Rules.{rules}
use Rattle.sound.proofs.Calls.{call-unsound, call_passes}
use Rattle.domain.specs.Threads.{privs_set}
use Rattle.broker_domains.proofs.set_no_new_privs.Goals as goal

pub returns-then-not-is_sound : goal.returns-then-not-is_sound
unfolding privs_set
returns-then-not-is_sound c =
    call-unsound _ _ _ c.is_sound.ensures (ap not c.if-not-is_sound.true)

pub returns : goal.returns
unfolding privs_set
returns c =
    call_passes _ _ _ c.is_sound.ensures (ap not c.if-not-is_sound.false) c.set_no_new_privs.ensures
