use borrow.Author.Rules.{rules}
use Rattle.tables.proofs.Blames.{named-refused, named-done}
use Rattle.tree_link.proofs.link.Goals as goal

pub link_checks-reply-requires : goal.link_checks-reply-requires
link_checks-reply-requires c =
    c.free_entry-e.ensures

pub returns-then-is_refused : goal.returns-then-is_refused
returns-then-is_refused c =
    named-refused _ _ _ _ _ c.link_checks-reply.ensures _ c.is_refused.ensures c.if-is_refused.true

pub apply_link-requires : goal.apply_link-requires
apply_link-requires c =
    c.free_entry-e.ensures

pub returns : goal.returns
returns c =
    rw (c.apply_link.ensures, c.free_entry-e.ensures) (named-done _ _ _ _ _ c.link_checks-reply.ensures _ _ c.is_refused.ensures c.if-is_refused.false)
