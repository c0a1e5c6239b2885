use borrow.Author.Rules.{rules}
use Rattle.queue.specs.Queue.{put_answer}
use Rattle.queue.proofs.put_answer.Goals as goal

pub returns : goal.returns
unfolding put_answer
returns c =
    cc
