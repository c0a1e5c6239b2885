use mathlib.Core.Bool.{not}
use mathlib.Core.Path.{ap}
use borrow.Author.Rules.{rules}
use Rattle.sound.proofs.Calls.{call-unsound, call_passes}
use Rattle.ruleset.specs.Create.{closed}
use Rattle.broker_rulesets.proofs.close_ruleset.Goals as goal

pub returns-then-not-is_sound : goal.returns-then-not-is_sound
unfolding closed
returns-then-not-is_sound c =
    call-unsound _ _ _ c.is_sound.ensures (ap not c.if-not-is_sound.true)

pub returns : goal.returns
unfolding closed
returns c =
    call_passes _ _ _ c.is_sound.ensures (ap not c.if-not-is_sound.false) c.close.ensures
