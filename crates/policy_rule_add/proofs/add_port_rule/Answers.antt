use mathlib.Core.Path.{refl}
use borrow.Author.Rules.{rules}
use Rattle.policy_rule_add.proofs.Rules.{port-added}
use Rattle.policy_rule_add.proofs.add_port_rule.Goals as goal

pub returns : goal.returns
returns c =
    port-added _ c.requires _ _ _ refl c.add_port.ensures
