use mathlib.Core.Bool.{not}
use mathlib.Core.Path.{ap}
use Rattle.sound.proofs.Calls.{call-unsound, call_passes}
use Rattle.task.specs.Task.{task_call}
use Rattle.broker.proofs.tasks.request.Goals as goal

pub returns-then-not-is_sound : goal.returns-then-not-is_sound
unfolding task_call
returns-then-not-is_sound c =
    call-unsound _ _ _ c.is_sound.ensures (ap not c.if-not-is_sound.true)

pub returns : goal.returns
unfolding task_call
returns c =
    call_passes _ _ _ c.is_sound.ensures (ap not c.if-not-is_sound.false) c.task.ensures
