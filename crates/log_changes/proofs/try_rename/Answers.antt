use borrow.Author.Rules.{rules}
use Rattle.log_changes.proofs.Trying.{rename-refused_lem, rename-fits, rename-idle, rename-made}
use Rattle.log_changes.proofs.try_rename.Goals as goal

pub rename_refusal-requires : goal.rename_refusal-requires
rename_refusal-requires c =
    c.bearer-x.ensures

pub returns-then-rename_refusal-ne0 : goal.returns-then-rename_refusal-ne0
returns-then-rename_refusal-ne0 c =
    rename-refused_lem _ _ _ _ _ c.bearer-x.ensures c.rename_refusal.ensures c.if-rename_refusal-ne0.true

pub returns-then-is_same : goal.returns-then-is_same
returns-then-is_same c =
    rename-idle _ _ _ _ _ c.bearer-x.ensures c.rename_refusal.ensures c.is_same.ensures c.if-is_same.true

pub put_renamed-requires : goal.put_renamed-requires
put_renamed-requires c =
    rename-fits _ _ _ _ _ c.bearer-x.ensures c.rename_refusal.ensures c.if-rename_refusal-ne0.false

pub returns : goal.returns
returns c =
    rename-made _ _ _ _ _ c.bearer-x.ensures c.rename_refusal.ensures c.is_same.ensures c.if-rename_refusal-ne0.false c.if-is_same.false c.apply_rename.ensures c.put_renamed.ensures
