use borrow.Author.Rules.{rules}
use Rattle.queue.specs.Queue.{put_request}
use Rattle.queue_post.proofs.put_request.Goals as goal

pub returns : goal.returns
unfolding put_request
returns c =
    cc
