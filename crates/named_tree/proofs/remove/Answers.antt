use borrow.Author.Rules.{rules}
use Rattle.named.proofs.Replies.{told-refused, told-done}
use Rattle.named_tree.proofs.remove.Goals as goal

pub returns-then-is_refused : goal.returns-then-is_refused
returns-then-is_refused c =
    told-refused _ _ _ _ _ c.remove_checks-reply.ensures _ c.is_refused.ensures c.if-is_refused.true

pub returns : goal.returns
returns c =
    rw (c.clear_name.ensures, c.free_row.ensures) (told-done _ _ _ _ _ c.remove_checks-reply.ensures _ _ c.is_refused.ensures c.if-is_refused.false)
