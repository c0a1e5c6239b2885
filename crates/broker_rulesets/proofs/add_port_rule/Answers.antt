use mathlib.Core.Bool.{not}
use mathlib.Core.Path.{ap}
use borrow.Author.Rules.{rules}
use Rattle.sound.proofs.Calls.{call-unsound, call_passes}
use Rattle.rule.specs.Rule.{port_added}
use Rattle.broker_rulesets.proofs.add_port_rule.Goals as goal

pub returns-then-not-is_sound : goal.returns-then-not-is_sound
unfolding port_added
returns-then-not-is_sound c =
    call-unsound _ _ _ c.is_sound.ensures (ap not c.if-not-is_sound.true)

pub returns : goal.returns
unfolding port_added
returns c =
    call_passes _ _ _ c.is_sound.ensures (ap not c.if-not-is_sound.false) c.add_port.ensures
