use mathlib.Core.Path.{◌≡◌, refl}
use mathlib.Core.Bool.{Bool, true, false, ◌||◌}
use lib.Dec.{leb}
use borrow.Author.Tests.{ne_eqb}
use Rattle.policy.specs.Grammar.{is_rule}
use Rattle.policy_rules.proofs.is_rule.Goals as goal

or_false : (b : Bool) → b ≡ (b || false)
or_false true = refl
or_false false = refl

pub returns-then-tag-eq-PATH_TAG : goal.returns-then-tag-eq-PATH_TAG
unfolding is_rule
returns-then-tag-eq-PATH_TAG c =
    rw c.if-tag-eq-PATH_TAG.true (or_false (leb 8 c.args.len))

pub returns-then-tag-eq-PORT_TAG : goal.returns-then-tag-eq-PORT_TAG
unfolding is_rule
returns-then-tag-eq-PORT_TAG c =
    rw c.if-tag-eq-PORT_TAG.true

pub returns : goal.returns
unfolding is_rule
returns c =
    rw (ne_eqb _ _ c.if-tag-eq-PATH_TAG.false, ne_eqb _ _ c.if-tag-eq-PORT_TAG.false)
