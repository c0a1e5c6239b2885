use borrow.Author.Rules.{rules}
use Rattle.named_moves.proofs.Moving.{rename-refused_lem, rename_fit, rename-done}
use Rattle.named_moves.proofs.rename.Goals as goal

pub rename_checks-reply-requires : goal.rename_checks-reply-requires
rename_checks-reply-requires c =
    c.bearer-x.ensures

pub returns-then-is_refused : goal.returns-then-is_refused
returns-then-is_refused c =
    rename-refused_lem _ _ _ _ _ c.bearer-x.ensures c.rename_checks-reply.ensures c.is_refused.ensures c.if-is_refused.true

pub put_renamed-requires : goal.put_renamed-requires
put_renamed-requires c =
    rename_fit _ _ _ _ _ c.bearer-x.ensures c.rename_checks-reply.ensures c.is_refused.ensures c.if-is_refused.false

pub returns : goal.returns
returns c =
    rename-done _ _ _ _ _ c.bearer-x.ensures c.rename_checks-reply.ensures c.is_refused.ensures _ _ c.if-is_refused.false c.apply_rename.ensures c.put_renamed.ensures
