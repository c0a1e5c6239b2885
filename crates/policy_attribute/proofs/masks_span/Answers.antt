-- the first field is whole
use mathlib.Core.Path.{◌≡◌, subst, ◌∙◌}
use native.Mathlib.Omega.{arith}
use borrow.Author.Rules.{rules}
use lib.ListN.{length}
use Rattle.policy.specs.Front.{WholeAt}
use Rattle.policy.proofs.Parts.{part_none}
use Rattle.policy_fields.specs.Fields.{FieldIs}
use Rattle.policy_attribute.proofs.Second.{none-empty, none-cut, none_last, none_behind, masks-here}
use Rattle.policy_attribute.proofs.masks_span.Goals as goal

pub returns-then-end-eq0 : goal.returns-then-end-eq0
returns-then-end-eq0 c =
    let f = c.args.part.now in record { ordered = omega arith; inside = omega arith; bytes = part_none f 0 ∙ none-empty f c.if-end-eq0.true }

pub returns-in_default : goal.returns-in_default
returns-in_default c =
    let f = c.args.part.now in
    record { ordered = omega arith; inside = omega arith; bytes = part_none f 0 ∙ none-cut f (subst (FieldIs f 0 (length f)) c.in_default.is c.field_at.ensures) }

pub returns-then-next-end : goal.returns-then-next-end
returns-then-next-end c =
    let first-whole : let f = c.args.part.now in WholeAt f 0 (length f) c.in-Whole.tag c.in-Whole.next = let f = c.args.part.now in subst (FieldIs f 0 (length f)) c.in-Whole.is c.field_at.ensures in
    let f = c.args.part.now in
    record { ordered = omega arith; inside = omega arith; bytes = part_none f 0 ∙ none_last f _ _ (first-whole) c.if-next-end.true }

pub field_at-requires-2 : goal.field_at-requires-2
field_at-requires-2 c =
    let first-whole : let f = c.args.part.now in WholeAt f 0 (length f) c.in-Whole.tag c.in-Whole.next = let f = c.args.part.now in subst (FieldIs f 0 (length f)) c.in-Whole.is c.field_at.ensures in
    let w = first-whole in (omega arith, omega arith)

pub returns-in_default-field_at : goal.returns-in_default-field_at
returns-in_default-field_at c =
    let first-whole : let f = c.args.part.now in WholeAt f 0 (length f) c.in-Whole.tag c.in-Whole.next = let f = c.args.part.now in subst (FieldIs f 0 (length f)) c.in-Whole.is c.field_at.ensures in
    let f = c.args.part.now in
    record { ordered = omega arith; inside = omega arith; bytes = part_none f 0 ∙ none_behind f _ _ (first-whole) (subst (FieldIs f c.in-Whole.next (length f)) c.in_default-field_at.is c.field_at-2.ensures) }

pub overflow_add-result : goal.overflow_add-result
overflow_add-result c =
    let second-whole : let f = c.args.part.now in
    WholeAt f c.in-Whole.next (length f) c.in-Whole-field_at.tag c.in-Whole-field_at.last = let f = c.args.part.now in
    subst (FieldIs f c.in-Whole.next (length f)) c.in-Whole-field_at.is c.field_at-2.ensures in
    let w = second-whole in omega arith

pub returns : goal.returns
returns c =
    let second-whole : let f = c.args.part.now in
    WholeAt f c.in-Whole.next (length f) c.in-Whole-field_at.tag c.in-Whole-field_at.last = let f = c.args.part.now in
    subst (FieldIs f c.in-Whole.next (length f)) c.in-Whole-field_at.is c.field_at-2.ensures in
    let first-whole : let f = c.args.part.now in WholeAt f 0 (length f) c.in-Whole.tag c.in-Whole.next = let f = c.args.part.now in subst (FieldIs f 0 (length f)) c.in-Whole.is c.field_at.ensures in
    let f = c.args.part.now in
    let w = second-whole in
    record { ordered = w.past; inside = w.inside; bytes = masks-here f _ _ (first-whole) _ _ w }
