use borrow.Author.Rules.{rules}
use Rattle.named.proofs.Replies.{fresh-unlike, fresh-refused, fresh-done}
use Rattle.named_fresh.proofs.fresh.Goals as goal

pub returns-then-names : goal.returns-then-names
returns-then-names c =
    fresh-unlike _ _ c.if-names.true

pub returns-then-is_refused : goal.returns-then-is_refused
returns-then-is_refused c =
    fresh-refused _ _ c.if-names.false c.fresh-reply.ensures c.is_refused.ensures c.if-is_refused.true

pub returns : goal.returns
returns c =
    fresh-done _ _ c.if-names.false c.fresh-reply.ensures c.is_refused.ensures c.if-is_refused.false c.clear_names.ensures
