use borrow.Author.Rules.{rules}
use Rattle.rule.specs.Rule.{joined}
use Rattle.rule_apply.proofs.join_rule.Goals as goal

pub returns : goal.returns
unfolding joined
returns c =
    rw (← c.row_read.ensures, ← c.join-both.ensures) c.row_write.ensures
