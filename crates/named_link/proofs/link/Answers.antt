use borrow.Author.Rules.{rules}
use Rattle.named.proofs.Replies.{told-refused}
use Rattle.named_link.proofs.Linking.{link_fit, link-done}
use Rattle.named_link.proofs.link.Goals as goal

pub link_checks-reply-requires : goal.link_checks-reply-requires
link_checks-reply-requires c =
    c.free_entry-e.ensures

pub returns-then-is_refused : goal.returns-then-is_refused
returns-then-is_refused c =
    told-refused _ _ _ _ _ c.link_checks-reply.ensures _ c.is_refused.ensures c.if-is_refused.true

pub apply_link-requires : goal.apply_link-requires
apply_link-requires c =
    c.free_entry-e.ensures

pub put_name-requires : goal.put_name-requires
put_name-requires c =
    link_fit _ _ _ _ _ c.link_checks-reply.ensures c.is_refused.ensures c.if-is_refused.false

pub returns : goal.returns
returns c =
    link-done _ _ _ _ _ c.link_checks-reply.ensures c.is_refused.ensures c.if-is_refused.false _ _ c.free_entry-e.ensures c.apply_link.ensures c.put_name.ensures
