-- the field is whole
use mathlib.Core.Bool.{not}
use mathlib.Core.Path.{sym, subst, ◌∙◌, ap}
use Prim.Native.Nat.{ℕ}
use native.Mathlib.Omega.{arith}
use borrow.Author.Rules.{rules}
use lib.ListN.{length}
use Rattle.policy.specs.Fields.{ruleset_tag}
use Rattle.policy.specs.Front.{WholeAt}
use Rattle.policy_fields.specs.Fields.{FieldIs}
use Rattle.policy_names.proofs.Buckets.{indexed-past}
use Rattle.policy_files.proofs.Reading.{allowed-cut, masks-fine, masks_bad, name_fine, name_bad, none_open, is-a-rule, masks-other, rule-after}
use Rattle.policy_files.proofs.read_next.Goals as goal

pub overflow_sub-next : goal.overflow_sub-next
overflow_sub-next c =
    let whole : let a = c.args in WholeAt a.f.now a.at (length a.f.now) c.in-Whole.tag c.in-Whole.next = let a = c.args in
    subst (FieldIs a.f.now a.at (length a.f.now)) c.in-Whole.is c.field_at.ensures in
    let w = whole in omega arith

pub overflow_sub-next-then-before-eq-RULESET_TAG : goal.overflow_sub-next-then-before-eq-RULESET_TAG
overflow_sub-next-then-before-eq-RULESET_TAG c =
    let whole : let a = c.args in WholeAt a.f.now a.at (length a.f.now) c.in-Whole.tag c.in-Whole.next = let a = c.args in
    subst (FieldIs a.f.now a.at (length a.f.now)) c.in-Whole.is c.field_at.ensures in
    let w = whole in omega arith

pub returns-then-is_masks : goal.returns-then-is_masks
returns-then-is_masks c =
    let whole : let a = c.args in WholeAt a.f.now a.at (length a.f.now) c.in-Whole.tag c.in-Whole.next = let a = c.args in
    subst (FieldIs a.f.now a.at (length a.f.now)) c.in-Whole.is c.field_at.ensures in
    let a = c.args in
    let m = c.is_masks.ensures in
    (masks-fine a.f.now a.before a.at _ _ (whole) c.if-before-eq-RULESET_TAG.true m c.if-is_masks.true, indexed-past a.f.now a.seen.now a.at _ c.requires.1 _ (whole) (masks-other _ _ m c.if-is_masks.true))

pub returns-then-before-eq-RULESET_TAG : goal.returns-then-before-eq-RULESET_TAG
returns-then-before-eq-RULESET_TAG c =
    let whole : let a = c.args in WholeAt a.f.now a.at (length a.f.now) c.in-Whole.tag c.in-Whole.next = let a = c.args in
    subst (FieldIs a.f.now a.at (length a.f.now)) c.in-Whole.is c.field_at.ensures in
    let a = c.args in
    (masks_bad a.f.now a.before a.at _ _ (whole) c.if-before-eq-RULESET_TAG.true c.is_masks.ensures c.if-is_masks.false, c.requires.1.size)

pub is_name-requires : goal.is_name-requires
is_name-requires c =
    let whole : let a = c.args in WholeAt a.f.now a.at (length a.f.now) c.in-Whole.tag c.in-Whole.next = let a = c.args in
    subst (FieldIs a.f.now a.at (length a.f.now)) c.in-Whole.is c.field_at.ensures in
    let opens : let a = c.args in WholeAt a.f.now a.at (length a.f.now) ruleset_tag c.in-Whole.next = let a = c.args in
    subst (λ (t : ℕ). WholeAt a.f.now a.at (length a.f.now) t c.in-Whole.next) c.if-tag-eq-RULESET_TAG.true (whole) in
    (opens, c.requires.1)

pub returns-then-not-is_name : goal.returns-then-not-is_name
returns-then-not-is_name c =
    let whole : let a = c.args in WholeAt a.f.now a.at (length a.f.now) c.in-Whole.tag c.in-Whole.next = let a = c.args in
    subst (FieldIs a.f.now a.at (length a.f.now)) c.in-Whole.is c.field_at.ensures in
    let a = c.args in
    (name_bad a.f.now a.before a.at _ _ (whole) c.if-before-eq-RULESET_TAG.false c.if-tag-eq-RULESET_TAG.true c.is_name.ensures (ap not c.if-not-is_name.true), c.requires.1.size)

pub mark-requires : goal.mark-requires
mark-requires c =
    let whole : let a = c.args in WholeAt a.f.now a.at (length a.f.now) c.in-Whole.tag c.in-Whole.next = let a = c.args in
    subst (FieldIs a.f.now a.at (length a.f.now)) c.in-Whole.is c.field_at.ensures in
    let opens : let a = c.args in WholeAt a.f.now a.at (length a.f.now) ruleset_tag c.in-Whole.next = let a = c.args in
    subst (λ (t : ℕ). WholeAt a.f.now a.at (length a.f.now) t c.in-Whole.next) c.if-tag-eq-RULESET_TAG.true (whole) in
    (opens, c.requires.1)

pub returns-then-tag-eq-RULESET_TAG : goal.returns-then-tag-eq-RULESET_TAG
returns-then-tag-eq-RULESET_TAG c =
    let whole : let a = c.args in WholeAt a.f.now a.at (length a.f.now) c.in-Whole.tag c.in-Whole.next = let a = c.args in
    subst (FieldIs a.f.now a.at (length a.f.now)) c.in-Whole.is c.field_at.ensures in
    let a = c.args in
    (name_fine a.f.now a.before a.at _ _ (whole) c.if-before-eq-RULESET_TAG.false c.if-tag-eq-RULESET_TAG.true c.is_name.ensures (ap not c.if-not-is_name.false), c.mark.ensures)

pub returns-then-before-eq0 : goal.returns-then-before-eq0
returns-then-before-eq0 c =
    let whole : let a = c.args in WholeAt a.f.now a.at (length a.f.now) c.in-Whole.tag c.in-Whole.next = let a = c.args in
    subst (FieldIs a.f.now a.at (length a.f.now)) c.in-Whole.is c.field_at.ensures in
    let a = c.args in
    (none_open a.f.now a.before a.at _ _ (whole) c.if-before-eq-RULESET_TAG.false c.if-tag-eq-RULESET_TAG.false c.if-before-eq0.true, c.requires.1.size)

pub returns-in-Cut : goal.returns-in-Cut
returns-in-Cut c =
    let a = c.args in
    (sym (allowed-cut a.f.now a.before a.at (subst (FieldIs a.f.now a.at (length a.f.now)) c.in-Cut.is c.field_at.ensures)), c.requires.1.size)

pub returns-else-before-eq0 : goal.returns-else-before-eq0
returns-else-before-eq0 c =
    let whole : let a = c.args in WholeAt a.f.now a.at (length a.f.now) c.in-Whole.tag c.in-Whole.next = let a = c.args in
    subst (FieldIs a.f.now a.at (length a.f.now)) c.in-Whole.is c.field_at.ensures in
    let a = c.args in
    let e = c.read_field.ensures in
    (e ∙ is-a-rule a.f.now a.before a.at _ _ (whole) c.if-before-eq-RULESET_TAG.false c.if-tag-eq-RULESET_TAG.false c.if-before-eq0.false, rule-after a.f.now a.seen.now a.at _ _ c.requires.1 (whole) c.if-tag-eq-RULESET_TAG.false _ e)
