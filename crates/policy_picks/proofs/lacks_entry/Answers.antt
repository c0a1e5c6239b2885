use mathlib.Core.Path.{refl}
use native.Mathlib.Omega.{arith}
use lib.Dec.{leb}
use borrow.Author.Rules.{rules}
use Rattle.access.specs.Limits.{max_entries}
use Rattle.policy_picks.proofs.Picking.{at_other, at_path}
use Rattle.policy_picks.proofs.lacks_entry.Goals as goal

pub returns-then-rule_type-ne-PATH_RULE : goal.returns-then-rule_type-ne-PATH_RULE
returns-then-rule_type-ne-PATH_RULE c =
    let a = c.args in at_other a.rules.now a.i c.rule_type.ensures (leb max_entries) a.picks.now c.if-rule_type-ne-PATH_RULE.true

pub offset_bounds-picks-i : goal.offset_bounds-picks-i
offset_bounds-picks-i c =
    let h = c.requires in omega arith

pub bounds-picks-i : goal.bounds-picks-i
bounds-picks-i c =
    c.requires

pub returns : goal.returns
returns c =
    let a = c.args in at_path a.rules.now a.i c.rule_type.ensures (leb max_entries) a.picks.now c.if-rule_type-ne-PATH_RULE.false refl
