use native.Mathlib.Omega.{arith}
use borrow.Author.Rules.{rules}
use Rattle.ruleset.specs.Attribute.{number}
use Rattle.policy_rule_add.proofs.port_of.Goals as goal

pub returns : goal.returns
unfolding number
returns c =
    omega (arith, c.byte-2.ensures.0, c.byte.ensures.0)
