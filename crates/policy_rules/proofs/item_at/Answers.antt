-- the field is whole
use mathlib.Core.Path.{sym, ◌∙◌, subst}
use borrow.Author.Rules.{rules}
use native.Mathlib.Omega.{arith}
use Rattle.policy.specs.Front.{WholeAt}
use Rattle.policy_fields.specs.Fields.{FieldIs}
use Rattle.policy_rules.proofs.Items.{bad_cut, too_deep, is-a-rule, no_rule, is_a_group}
use Rattle.policy_rules.proofs.item_at.Goals as goal

pub returns-then-depth-eq0 : goal.returns-then-depth-eq0
returns-then-depth-eq0 c =
    let whole : let a = c.args in WholeAt a.f.now a.s.at a.s.end c.in-Whole.tag c.in-Whole.next = let a = c.args in
    subst (FieldIs a.f.now a.s.at a.s.end) c.in-Whole.is c.field_at.ensures in
    let a = c.args in
    too_deep a.f.now a.depth a.s.at a.s.end _ _ c.requires.1 (whole) c.if-tag-eq-GROUP_TAG.true c.if-depth-eq0.true

pub group_at-requires : goal.group_at-requires
group_at-requires c =
    let whole : let a = c.args in WholeAt a.f.now a.s.at a.s.end c.in-Whole.tag c.in-Whole.next = let a = c.args in
    subst (FieldIs a.f.now a.s.at a.s.end) c.in-Whole.is c.field_at.ensures in
    let q = whole in omega arith

pub returns-then-tag-eq-GROUP_TAG : goal.returns-then-tag-eq-GROUP_TAG
returns-then-tag-eq-GROUP_TAG c =
    let whole : let a = c.args in WholeAt a.f.now a.s.at a.s.end c.in-Whole.tag c.in-Whole.next = let a = c.args in
    subst (FieldIs a.f.now a.s.at a.s.end) c.in-Whole.is c.field_at.ensures in
    let a = c.args in
    is_a_group a.f.now a.depth a.s.at a.s.end _ _ c.requires.1 (whole) c.group_at.result c.if-tag-eq-GROUP_TAG.true c.if-depth-eq0.false c.group_at.ensures

pub overflow_sub-next : goal.overflow_sub-next
overflow_sub-next c =
    let whole : let a = c.args in WholeAt a.f.now a.s.at a.s.end c.in-Whole.tag c.in-Whole.next = let a = c.args in
    subst (FieldIs a.f.now a.s.at a.s.end) c.in-Whole.is c.field_at.ensures in
    let q = whole in omega arith

pub overflow_sub-next-in-Whole : goal.overflow_sub-next-in-Whole
overflow_sub-next-in-Whole c =
    let whole : let a = c.args in WholeAt a.f.now a.s.at a.s.end c.in-Whole.tag c.in-Whole.next = let a = c.args in
    subst (FieldIs a.f.now a.s.at a.s.end) c.in-Whole.is c.field_at.ensures in
    let q = whole in omega arith

pub returns-then-is_rule : goal.returns-then-is_rule
returns-then-is_rule c =
    let whole : let a = c.args in WholeAt a.f.now a.s.at a.s.end c.in-Whole.tag c.in-Whole.next = let a = c.args in
    subst (FieldIs a.f.now a.s.at a.s.end) c.in-Whole.is c.field_at.ensures in
    let a = c.args in
    is-a-rule a.f.now a.depth a.s.at a.s.end _ _ c.requires.1 (whole) c.if-tag-eq-GROUP_TAG.false (sym c.is_rule.ensures ∙ c.if-is_rule.true)

pub returns-in-Cut : goal.returns-in-Cut
returns-in-Cut c =
    let a = c.args in
    bad_cut a.f.now a.depth a.s.at a.s.end _ (subst (FieldIs a.f.now a.s.at a.s.end) c.in-Cut.is c.field_at.ensures)

pub returns-else-is_rule : goal.returns-else-is_rule
returns-else-is_rule c =
    let whole : let a = c.args in WholeAt a.f.now a.s.at a.s.end c.in-Whole.tag c.in-Whole.next = let a = c.args in
    subst (FieldIs a.f.now a.s.at a.s.end) c.in-Whole.is c.field_at.ensures in
    let a = c.args in
    no_rule a.f.now a.depth a.s.at a.s.end _ _ c.requires.1 (whole) c.if-tag-eq-GROUP_TAG.false (sym c.is_rule.ensures ∙ c.if-is_rule.false)
