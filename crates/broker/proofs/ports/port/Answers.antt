use mathlib.Core.Bool.{not}
use mathlib.Core.Path.{ap}
use Rattle.sound.proofs.Calls.{named-unsound, named_passes}
use Rattle.net.specs.Port.{port_call}
use Rattle.broker.proofs.ports.port.Goals as goal

pub returns-then-not-is_sound : goal.returns-then-not-is_sound
unfolding port_call
returns-then-not-is_sound c =
    named-unsound _ _ _ _ _ _ c.is_sound.ensures (ap not c.if-not-is_sound.true)

pub returns : goal.returns
unfolding port_call
returns c =
    named_passes _ _ _ _ _ _ c.is_sound.ensures (ap not c.if-not-is_sound.false) c.port.ensures
