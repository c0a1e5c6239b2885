use mathlib.Core.Path.{◌≡◌, refl, sym, ap, ◌∙◌}
use mathlib.Core.Bool.{not}
use borrow.Author.Rules.{rules}
use borrow.Author.Tests.{eq-eqb, ne_eqb}
use Rattle.access.specs.Rights.{meet}
use Rattle.rule.specs.Rule.{sweeping}
use Rattle.policy_picks.specs.Picks.{sweeps_at}
use Rattle.policy_picks.proofs.sweeps.Goals as goal

pub returns-then-rule_type-ne-PATH_RULE : goal.returns-then-rule_type-ne-PATH_RULE
unfolding sweeps_at sweeping
returns-then-rule_type-ne-PATH_RULE c =
    rw (← c.rule_type.ensures, ne_eqb _ 1 c.if-rule_type-ne-PATH_RULE.true)

pub returns-then-rule_key-object_of : goal.returns-then-rule_key-object_of
unfolding sweeps_at sweeping
returns-then-rule_key-object_of c =
    rw (← c.rule_type.ensures, eq-eqb _ 1 c.if-rule_type-ne-PATH_RULE.false, ← c.rule_key.ensures, ← c.object_of.ensures, ne_eqb _ _ c.if-rule_key-object_of.true)

pub returns : goal.returns
unfolding sweeps_at sweeping
returns c =
    rw (← c.rule_type.ensures, eq-eqb _ 1 c.if-rule_type-ne-PATH_RULE.false, ← c.rule_key.ensures, ← c.object_of.ensures, eq-eqb _ _ c.if-rule_key-object_of.false, ← c.rule_rights-rights.ensures, ← c.meet.ensures)
    (ap not c.is_empty.ensures)
