use mathlib.Core.Bool.{not}
use mathlib.Core.Path.{ap}
use Rattle.laws.proofs.Conditions.{all-is, conditions}
use Rattle.sound_rulesets.proofs.Rows.{row_closed, row_open}
use Rattle.sound_rulesets.proofs.ruleset_sound.Goals as goal

pub returns-then-not-handles_any : goal.returns-then-not-handles_any
returns-then-not-handles_any c =
    let a = c.args in
    row_closed a.entries.now a.next a.level a.rulesets.now a.r c.handles_any.ensures (ap not c.if-not-handles_any.true) c.all_zero.ensures

pub returns-then-count-gt-MAX_RULES : goal.returns-then-count-gt-MAX_RULES
returns-then-count-gt-MAX_RULES c =
    let a = c.args in
    row_open a.entries.now a.next a.level a.rulesets.now a.r c.handles_any.ensures (ap not c.if-not-handles_any.false) (all-is (search conditions depth 16))

pub returns-then-not-masks_known : goal.returns-then-not-masks_known
returns-then-not-masks_known c =
    let a = c.args in
    row_open a.entries.now a.next a.level a.rulesets.now a.r c.handles_any.ensures (ap not c.if-not-handles_any.false) (all-is (search conditions depth 16))

pub returns-then-not-all_zero : goal.returns-then-not-all_zero
returns-then-not-all_zero c =
    let a = c.args in
    row_open a.entries.now a.next a.level a.rulesets.now a.r c.handles_any.ensures (ap not c.if-not-handles_any.false) (all-is (search conditions depth 16))

pub returns : goal.returns
returns c =
    let a = c.args in
    row_open a.entries.now a.next a.level a.rulesets.now a.r c.handles_any.ensures (ap not c.if-not-handles_any.false) (all-is (search conditions depth 16))
