use mathlib.Core.Bool.{not}
use mathlib.Core.Path.{refl, ap}
use borrow.Author.Rules.{rules}
use Rattle.sound.proofs.Calls.{call-unsound, call_passes}
use Rattle.ruleset.specs.Create.{created}
use Rattle.broker_rulesets.proofs.create_ruleset.Goals as goal

pub returns-then-not-is_sound : goal.returns-then-not-is_sound
unfolding created
returns-then-not-is_sound c =
    record { answer = call-unsound _ _ _ c.is_sound.ensures (ap not c.if-not-is_sound.true); bytes = refl }

pub returns : goal.returns
unfolding created
returns c =
    record { answer = call_passes _ _ _ c.is_sound.ensures (ap not c.if-not-is_sound.false) c.create.ensures.answer; bytes = refl }
