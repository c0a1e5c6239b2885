use borrow.Author.Rules.{rules}
use Rattle.policy_part.proofs.Applied.{opened, refused, denied}
use Rattle.policy_part.proofs.apply_part.Goals as goal

pub open_ruleset-requires : goal.open_ruleset-requires
open_ruleset-requires c =
    c.requires.0

pub add_rules-requires : goal.add_rules-requires
add_rules-requires c =
    c.open_ruleset.ensures.still

pub returns-in-Done : goal.returns-in-Done
returns-in-Done c =
    opened _ c.args.part.now c.open_ruleset.ensures c.in-Done.is c.requires.1 c.add_rules.ensures

pub returns-in-Refused : goal.returns-in-Refused
returns-in-Refused c =
    refused _ c.args.part.now c.open_ruleset.ensures c.in-Refused.is

pub returns-in-Denied : goal.returns-in-Denied
returns-in-Denied c =
    denied _ c.args.part.now c.open_ruleset.ensures c.in-Denied.is
