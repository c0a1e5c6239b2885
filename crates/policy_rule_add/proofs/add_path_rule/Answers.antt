use mathlib.Core.Path.{refl}
use borrow.Author.Rules.{rules}
use Rattle.policy_rule_add.proofs.Rules.{path-added, path-refused, path-denied}
use Rattle.policy_rule_add.proofs.add_path_rule.Goals as goal

pub returns-in-Done : goal.returns-in-Done
returns-in-Done c =
    path-added _ c.requires _ _ _ c.lookup.ensures c.in-Done.is refl c.add_path.ensures

pub returns-in-Refused : goal.returns-in-Refused
returns-in-Refused c =
    path-refused _ c.requires _ _ _ c.lookup.ensures c.in-Refused.is

pub returns-in-Denied : goal.returns-in-Denied
returns-in-Denied c =
    path-denied _ c.requires _ _ _ c.lookup.ensures c.in-Denied.is
