use borrow.Author.Rules.{rules}
use Rattle.queue.specs.Queue.{served_reply}
use Rattle.queue.proofs.served_reply.Goals as goal

pub returns-in-Slot : goal.returns-in-Slot
unfolding served_reply
returns-in-Slot c =
    rw c.in-Slot.is

pub returns-in-Idle : goal.returns-in-Idle
unfolding served_reply
returns-in-Idle c =
    rw c.in-Idle.is

pub returns-in-Refused : goal.returns-in-Refused
unfolding served_reply
returns-in-Refused c =
    rw c.in-Refused.is
