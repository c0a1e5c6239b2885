use borrow.Author.Rules.{rules}
use Rattle.queue.specs.Queue.{serve}
use Rattle.queue_turn.proofs.serve.Goals as goal

pub returns : goal.returns
unfolding serve
returns c =
    rw (c.put_answer.ensures, c.write.ensures, c.answer-a.ensures, c.row_read-3.ensures, c.row_read-2.ensures, c.row_read.ensures)
