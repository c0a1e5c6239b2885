use borrow.Author.Rules.{rules}
use Rattle.rule.proofs.Adding.{append-is}
use Rattle.rule_apply.proofs.append_rule.Goals as goal

pub returns : goal.returns
returns c =
    append-is _ _ _ _ _ _ c.row_write.ensures c.row_write-2.ensures c.row_write-3.ensures c.row_write-4.ensures
