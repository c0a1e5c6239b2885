use borrow.Author.Rules.{rules}
use Rattle.tables.proofs.Blames.{named-refused, named-done}
use Rattle.tree_rename.proofs.rename.Goals as goal

pub returns-then-is_refused : goal.returns-then-is_refused
returns-then-is_refused c =
    named-refused _ _ _ _ _ c.rename_checks-reply.ensures _ c.is_refused.ensures c.if-is_refused.true

pub returns : goal.returns
returns c =
    rw c.apply_rename.ensures (named-done _ _ _ _ _ c.rename_checks-reply.ensures _ _ c.is_refused.ensures c.if-is_refused.false)
