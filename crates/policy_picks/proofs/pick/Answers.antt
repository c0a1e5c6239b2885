use borrow.Author.Rules.{rules}
use Rattle.policy_picks.proofs.Picking.{pick_other, pick-path}
use Rattle.policy_picks.proofs.pick.Goals as goal

pub returns-then-rule_type-ne-PATH_RULE : goal.returns-then-rule_type-ne-PATH_RULE
returns-then-rule_type-ne-PATH_RULE c =
    let a = c.args in pick_other a.rules.now a.i c.rule_type.ensures a.entries.now a.names.now c.if-rule_type-ne-PATH_RULE.true

pub choose-requires : goal.choose-requires
choose-requires c =
    c.requires

pub returns : goal.returns
returns c =
    let a = c.args in pick-path a.rules.now a.i c.rule_type.ensures a.entries.now a.names.now c.if-rule_type-ne-PATH_RULE.false c.rule_key.ensures c.choose.ensures
