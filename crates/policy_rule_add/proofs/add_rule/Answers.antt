use borrow.Author.Rules.{rules}
use Rattle.policy_rule_add.proofs.Rules.{in_path, in_port, as_rule, path_bytes}
use Rattle.policy_rule_add.proofs.add_rule.Goals as goal

pub returns-then-tag-eq-PATH_TAG : goal.returns-then-tag-eq-PATH_TAG
returns-then-tag-eq-PATH_TAG c =
    as_rule _ _ (in_path c.args.tag c.args.value.now c.mask.ensures c.if-tag-eq-PATH_TAG.true (path_bytes c.args.value.now c.path_start-from.ensures)) c.add_path_rule.ensures

pub returns : goal.returns
returns c =
    as_rule _ _ (in_port c.args.tag c.args.value.now c.mask.ensures c.if-tag-eq-PATH_TAG.false c.port_of.ensures) c.add_port_rule.ensures
