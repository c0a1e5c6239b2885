use borrow.Author.Rules.{rules}
use Rattle.named.proofs.Replies.{told-refused}
use Rattle.named_tree.proofs.Creating.{fits, numbered, create-done}
use Rattle.named_tree.proofs.create.Goals as goal

pub create_checks-reply-requires : goal.create_checks-reply-requires
create_checks-reply-requires c =
    c.free_entry-e.ensures

pub returns-then-is_refused : goal.returns-then-is_refused
returns-then-is_refused c =
    told-refused _ _ _ _ _ c.create_checks-reply.ensures _ c.is_refused.ensures c.if-is_refused.true

pub apply_create-requires : goal.apply_create-requires
apply_create-requires c =
    (c.free_entry-e.ensures, numbered _ _ _ _ _ c.create_checks-reply.ensures c.is_refused.ensures c.if-is_refused.false)

pub put_name-requires : goal.put_name-requires
put_name-requires c =
    fits _ _ _ _ _ c.create_checks-reply.ensures c.is_refused.ensures c.if-is_refused.false

pub returns : goal.returns
returns c =
    create-done _ _ _ _ _ c.create_checks-reply.ensures c.is_refused.ensures c.if-is_refused.false _ _ c.free_entry-e.ensures c.apply_create.ensures c.put_name.ensures
