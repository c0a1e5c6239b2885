use borrow.Author.Rules.{rules}
use Rattle.queue.proofs.Seeks.{post-refused, post-done}
use Rattle.queue_post.proofs.post.Goals as goal

pub returns-then-c-ne0 : goal.returns-then-c-ne0
returns-then-c-ne0 c =
    post-refused _ _ _ _ _ c.post_checks-c.ensures c.if-c-ne0.true

pub returns : goal.returns
returns c =
    post-done _ _ _ _ _ c.post_checks-c.ensures c.if-c-ne0.false c.put_request.ensures c.write.ensures
