use mathlib.Core.Path.{◌≡◌, sym, subst, ap, ◌∙◌}
use Prim.Native.Nat.{ℕ, ◌≤◌, ◌-◌}
use native.Mathlib.Omega.{arith}
use borrow.Author.Rules.{rules}
use lib.ListN.{length}
use Rattle.laws.specs.Cells.{part}
use Rattle.policy.specs.Fields.{pieces}
use Rattle.policy.specs.Front.{WholeAt}
use Rattle.policy.specs.Files.{opens, first_place, place_of}
use Rattle.policy.proofs.Walks.{opens-same, opens-other, opens-cut, first-start, first_done, first-here, first_past, first-cut}
use Rattle.policy_fields.specs.Fields.{FieldIs}
use Rattle.policy_names.proofs.place_of.Goals as goal

pub loop-at-init : goal.loop-at-init
loop-at-init c =
    (omega arith, first-start _ _)

pub field_at-requires : goal.field_at-requires
field_at-requires c =
    (omega arith, omega arith)

pub returns-in-Cut : goal.returns-in-Cut
returns-in-Cut c =
    let l = c.loop-at in
    let a = c.args in
    let f = a.f.now in
    let e = subst (FieldIs f l.at (length f)) c.in-Cut.is c.field_at.ensures in
    sym (l.invariant.1 ∙ first-cut (opens a.name.now) f l.at (length f) (omega arith) c.loop-at-test.true e (opens-cut f l.at (length f) (omega arith) e a.name.now))

pub overflow_add-from : goal.overflow_add-from
overflow_add-from c =
    let whole : WholeAt c.args.f.now c.loop-at.at (length c.args.f.now) c.in-Whole.tag c.in-Whole.next = subst (FieldIs c.args.f.now c.loop-at.at (length c.args.f.now)) c.in-Whole.is c.field_at.ensures in
    let w = whole in omega arith

pub slice_bounds-same_bytes-count : goal.slice_bounds-same_bytes-count
slice_bounds-same_bytes-count c =
    let whole : WholeAt c.args.f.now c.loop-at.at (length c.args.f.now) c.in-Whole.tag c.in-Whole.next = subst (FieldIs c.args.f.now c.loop-at.at (length c.args.f.now)) c.in-Whole.is c.field_at.ensures in
    let w = whole in omega arith

pub slice_bounds-same_bytes-start : goal.slice_bounds-same_bytes-start
slice_bounds-same_bytes-start c =
    let whole : WholeAt c.args.f.now c.loop-at.at (length c.args.f.now) c.in-Whole.tag c.in-Whole.next = subst (FieldIs c.args.f.now c.loop-at.at (length c.args.f.now)) c.in-Whole.is c.field_at.ensures in
    let w = whole in omega arith

pub slice_bounds-same_bytes-end : goal.slice_bounds-same_bytes-end
slice_bounds-same_bytes-end c =
    let whole : WholeAt c.args.f.now c.loop-at.at (length c.args.f.now) c.in-Whole.tag c.in-Whole.next = subst (FieldIs c.args.f.now c.loop-at.at (length c.args.f.now)) c.in-Whole.is c.field_at.ensures in
    let w = whole in omega arith

pub returns-then-same_bytes : goal.returns-then-same_bytes
returns-then-same_bytes c =
    let whole : WholeAt c.args.f.now c.loop-at.at (length c.args.f.now) c.in-Whole.tag c.in-Whole.next = subst (FieldIs c.args.f.now c.loop-at.at (length c.args.f.now)) c.in-Whole.is c.field_at.ensures in
    let l = c.loop-at in
    let a = c.args in
    let f = a.f.now in
    sym (l.invariant.1 ∙ first-here (opens a.name.now) f l.at (length f) (omega arith) c.loop-at-test.true
    (opens-same f l.at (length f) (omega arith) _ _ (whole) a.name.now c.if-tag-eq-RULESET_TAG.true ∙ sym c.same_bytes.ensures ∙ c.if-same_bytes.true))

pub loop-at-smaller-else-same_bytes : goal.loop-at-smaller-else-same_bytes
loop-at-smaller-else-same_bytes c =
    let whole : WholeAt c.args.f.now c.loop-at.at (length c.args.f.now) c.in-Whole.tag c.in-Whole.next = subst (FieldIs c.args.f.now c.loop-at.at (length c.args.f.now)) c.in-Whole.is c.field_at.ensures in
    let w = whole in omega arith

pub loop-at-preserved-else-same_bytes : goal.loop-at-preserved-else-same_bytes
loop-at-preserved-else-same_bytes c =
    let whole : WholeAt c.args.f.now c.loop-at.at (length c.args.f.now) c.in-Whole.tag c.in-Whole.next = subst (FieldIs c.args.f.now c.loop-at.at (length c.args.f.now)) c.in-Whole.is c.field_at.ensures in
    let l = c.loop-at in
    let a = c.args in
    let f = a.f.now in
    let w = whole in (
      w.inside,
      l.invariant.1 ∙ first_past (opens a.name.now) f l.at (length f) (omega arith) c.loop-at-test.true _ _ w
          (opens-same f l.at (length f) (omega arith) _ _ w a.name.now c.if-tag-eq-RULESET_TAG.true ∙ sym c.same_bytes.ensures ∙ c.if-same_bytes.false),
    )

pub loop-at-smaller : goal.loop-at-smaller
loop-at-smaller c =
    let whole : WholeAt c.args.f.now c.loop-at.at (length c.args.f.now) c.in-Whole.tag c.in-Whole.next = subst (FieldIs c.args.f.now c.loop-at.at (length c.args.f.now)) c.in-Whole.is c.field_at.ensures in
    let w = whole in omega arith

pub loop-at-preserved : goal.loop-at-preserved
loop-at-preserved c =
    let whole : WholeAt c.args.f.now c.loop-at.at (length c.args.f.now) c.in-Whole.tag c.in-Whole.next = subst (FieldIs c.args.f.now c.loop-at.at (length c.args.f.now)) c.in-Whole.is c.field_at.ensures in
    let l = c.loop-at in
    let a = c.args in
    let f = a.f.now in
    let w = whole in
    (w.inside, l.invariant.1 ∙ first_past (opens a.name.now) f l.at (length f) (omega arith) c.loop-at-test.true _ _ w (opens-other f l.at (length f) (omega arith) _ _ w a.name.now c.if-tag-eq-RULESET_TAG.false))

pub returns : goal.returns
returns c =
    let a = c.args in
    let f = a.f.now in
    let e : c.loop-at.at ≡ length f = omega arith in
    sym (c.loop-at.invariant.1 ∙ ap (λ (k : ℕ). first_place (opens a.name.now) k (pieces (part f k (length f)))) e ∙ first_done (opens a.name.now) f (length f))
