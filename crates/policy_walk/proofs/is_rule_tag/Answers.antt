use borrow.Author.Tests.{ne_eqb}
use Rattle.policy_walk.specs.Steps.{is_rule_tag}
use Rattle.policy_walk.proofs.is_rule_tag.Goals as goal

pub returns-then-tag-eq-PATH_TAG : goal.returns-then-tag-eq-PATH_TAG
unfolding is_rule_tag
returns-then-tag-eq-PATH_TAG c =
    rw c.if-tag-eq-PATH_TAG.true

pub returns : goal.returns
unfolding is_rule_tag
returns c =
    rw (ne_eqb _ _ c.if-tag-eq-PATH_TAG.false)
