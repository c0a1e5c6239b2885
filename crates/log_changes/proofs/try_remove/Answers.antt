use borrow.Author.Rules.{rules}
use Rattle.log_changes.proofs.Trying.{remove-refused, remove-made}
use Rattle.log_changes.proofs.try_remove.Goals as goal

pub returns-then-remove_refusal-ne0 : goal.returns-then-remove_refusal-ne0
returns-then-remove_refusal-ne0 c =
    remove-refused _ _ _ c.remove_refusal.ensures c.if-remove_refusal-ne0.true

pub returns : goal.returns
returns c =
    remove-made _ _ _ c.remove_refusal.ensures c.if-remove_refusal-ne0.false c.free_row.ensures c.clear_name.ensures
