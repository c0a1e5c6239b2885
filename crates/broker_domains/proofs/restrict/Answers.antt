use mathlib.Core.Bool.{not}
use mathlib.Core.Path.{ap}
use borrow.Author.Rules.{rules}
use Rattle.sound.proofs.Calls.{call-unsound, call_passes}
use Rattle.domain_restrict.specs.Restrict.{restrict_call}
use Rattle.broker_domains.proofs.restrict.Goals as goal

pub returns-then-not-is_sound : goal.returns-then-not-is_sound
unfolding restrict_call
returns-then-not-is_sound c =
    call-unsound _ _ _ c.is_sound.ensures (ap not c.if-not-is_sound.true)

pub returns : goal.returns
unfolding restrict_call
returns c =
    call_passes _ _ _ c.is_sound.ensures (ap not c.if-not-is_sound.false) c.restrict.ensures
