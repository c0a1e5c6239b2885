use mathlib.Core.Path.{◌≡◌, refl, sym, subst, ap, ◌∙◌}
use Prim.Native.Nat.{ℕ, ◌-◌, ◌≤◌}
use native.Mathlib.Omega.{arith}
use borrow.Author.Rules.{rules}
use Rattle.laws.specs.Cells.{part}
use Rattle.policy.specs.Front.{WholeAt}
use Rattle.policy_fields.specs.Fields.{FieldIs}
use Rattle.policy_walk.specs.Flat.{flatten}
use Rattle.policy_walk.proofs.Steps.{past-on, at_cut, at-rule, at_other, at_group, at-end}
use Rattle.policy_walk.proofs.next_rule.Goals as goal

pub loop-at-init : goal.loop-at-init
loop-at-init c =
    (omega arith, omega arith, refl)

pub field_at-requires : goal.field_at-requires
field_at-requires c =
    (omega arith, omega arith)

pub returns-in_default : goal.returns-in_default
returns-in_default c =
    let l = c.loop-at in
    let f = c.args.f.now in
    let e = subst (FieldIs f l.at c.args.s.end) c.in_default.is c.field_at.ensures in
    l.invariant.2 ∙ at_cut c.args.level f l.at c.args.s.end c.requires.1 c.loop-at-test.true e

pub overflow_add-from : goal.overflow_add-from
overflow_add-from c =
    let whole : let a = c.args in
    WholeAt a.f.now c.loop-at.at a.s.end c.in-Whole.tag c.in-Whole.next = let a = c.args in
    subst (FieldIs a.f.now c.loop-at.at a.s.end) c.in-Whole.is c.field_at.ensures in
    let w = whole in let p = c.requires in omega arith

pub returns-then-is_rule_tag : goal.returns-then-is_rule_tag
returns-then-is_rule_tag c =
    let whole : let a = c.args in
    WholeAt a.f.now c.loop-at.at a.s.end c.in-Whole.tag c.in-Whole.next = let a = c.args in
    subst (FieldIs a.f.now c.loop-at.at a.s.end) c.in-Whole.is c.field_at.ensures in
    let l = c.loop-at in
    let w = whole in
    record {
      on = omega arith;
      ordered = w.past;
      inside = w.inside;
      tagged = sym c.is_rule_tag.ensures ∙ c.if-is_rule_tag.true;
      rules = l.invariant.2 ∙ at-rule c.args.level c.args.f.now l.at c.args.s.end c.requires.1 c.loop-at-test.true _ _ w (sym c.is_rule_tag.ensures ∙ c.if-is_rule_tag.true);
    }

pub past_group-at-requires : goal.past_group-at-requires
past_group-at-requires c =
    let whole : let a = c.args in
    WholeAt a.f.now c.loop-at.at a.s.end c.in-Whole.tag c.in-Whole.next = let a = c.args in
    subst (FieldIs a.f.now c.loop-at.at a.s.end) c.in-Whole.is c.field_at.ensures in
    let w = whole in let p = c.requires in (w.past, omega arith)

pub loop-at-smaller-then-tag-eq-GROUP_TAG : goal.loop-at-smaller-then-tag-eq-GROUP_TAG
loop-at-smaller-then-tag-eq-GROUP_TAG c =
    let whole : let a = c.args in
    WholeAt a.f.now c.loop-at.at a.s.end c.in-Whole.tag c.in-Whole.next = let a = c.args in
    subst (FieldIs a.f.now c.loop-at.at a.s.end) c.in-Whole.is c.field_at.ensures in
    let w = whole in
    let q = past-on _ _ _ _ w.past c.past_group-at.ensures in
    omega arith

pub loop-at-preserved-then-tag-eq-GROUP_TAG : goal.loop-at-preserved-then-tag-eq-GROUP_TAG
loop-at-preserved-then-tag-eq-GROUP_TAG c =
    let whole : let a = c.args in
    WholeAt a.f.now c.loop-at.at a.s.end c.in-Whole.tag c.in-Whole.next = let a = c.args in
    subst (FieldIs a.f.now c.loop-at.at a.s.end) c.in-Whole.is c.field_at.ensures in
    let l = c.loop-at in
    let w = whole in
    let q = past-on _ _ _ _ w.past c.past_group-at.ensures in
    (omega arith, omega arith, l.invariant.2 ∙ at_group c.args.level c.args.f.now l.at c.args.s.end c.requires.1 c.loop-at-test.true _ _ w c.if-tag-eq-GROUP_TAG.true c.past_group-at.ensures)

pub loop-at-smaller : goal.loop-at-smaller
loop-at-smaller c =
    let whole : let a = c.args in
    WholeAt a.f.now c.loop-at.at a.s.end c.in-Whole.tag c.in-Whole.next = let a = c.args in
    subst (FieldIs a.f.now c.loop-at.at a.s.end) c.in-Whole.is c.field_at.ensures in
    let w = whole in omega arith

pub loop-at-preserved : goal.loop-at-preserved
loop-at-preserved c =
    let whole : let a = c.args in
    WholeAt a.f.now c.loop-at.at a.s.end c.in-Whole.tag c.in-Whole.next = let a = c.args in
    subst (FieldIs a.f.now c.loop-at.at a.s.end) c.in-Whole.is c.field_at.ensures in
    let l = c.loop-at in
    let w = whole in
    (omega arith, w.inside, l.invariant.2 ∙ at_other c.args.level c.args.f.now l.at c.args.s.end c.requires.1 c.loop-at-test.true _ _ w (sym c.is_rule_tag.ensures ∙ c.if-is_rule_tag.false) c.if-tag-eq-GROUP_TAG.false)

pub returns : goal.returns
returns c =
    let f = c.args.f.now in
    let k = c.args.level in
    let e : c.loop-at.at ≡ c.args.s.end = omega arith in
    c.loop-at.invariant.2 ∙ ap (λ (j : ℕ). flatten k (part f j c.args.s.end)) e ∙ at-end k f c.args.s.end
