use borrow.Author.Rules.{rules}
use Rattle.capi.proofs.Answers.{posts}
use Rattle.capi.proofs.skein_post.Goals as goal

pub returns : goal.returns
returns c =
    posts _ _ c.post.ensures c.number.ensures
