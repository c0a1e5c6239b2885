use native.Mathlib.Omega.{arith}
use borrow.Author.Rules.{rules}
use borrow.Author.Tests.{le-leb, lt-leb, lt-ltb, le-ltb}
use Rattle.rule.specs.Rule.{added}
use Rattle.rule.proofs.Adding.{place-small}
use Rattle.rule_apply.proofs.apply_add.Goals as goal

pub join_rule-requires : goal.join_rule-requires
unfolding added
join_rule-requires c =
    let a = c.args in let p = place-small a.rulesets.now a.r a.ty a.key in omega arith

pub returns-then-count-place : goal.returns-then-count-place
unfolding added
returns-then-count-place c =
    rw (← c.ruleset_count-count.ensures, ← c.place_in-place.ensures, lt-leb _ _ c.if-count-place.true) c.join_rule.ensures

pub returns-then-count : goal.returns-then-count
unfolding added
returns-then-count c =
    rw (← c.ruleset_count-count.ensures, ← c.place_in-place.ensures, le-leb _ _ c.if-count-place.false, lt-ltb _ _ c.if-count.true) c.append_rule.ensures

pub returns-else-count : goal.returns-else-count
unfolding added
returns-else-count c =
    rw (← c.ruleset_count-count.ensures, ← c.place_in-place.ensures, le-leb _ _ c.if-count-place.false, le-ltb _ _ c.if-count.false)
