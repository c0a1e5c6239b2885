use borrow.Author.Rules.{rules}
use Rattle.task.specs.Task.{scope_right}
use Rattle.task.proofs.Scope.right.Goals as goal

pub returns-in-AbstractSocket : goal.returns-in-AbstractSocket
unfolding scope_right
returns-in-AbstractSocket c =
    rw c.in-AbstractSocket.is

pub returns-in-Signal : goal.returns-in-Signal
unfolding scope_right
returns-in-Signal c =
    rw c.in-Signal.is
