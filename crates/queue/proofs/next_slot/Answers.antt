use borrow.Author.Rules.{rules}
use Rattle.queue.proofs.Seeks.{next_up, next_round}
use Rattle.queue.proofs.next_slot.Goals as goal

pub returns-then-c-lt7 : goal.returns-then-c-lt7
returns-then-c-lt7 c =
    next_up _ c.if-c-lt7.true

pub returns-else-c-lt7 : goal.returns-else-c-lt7
returns-else-c-lt7 c =
    next_round _ c.if-c-lt7.false
