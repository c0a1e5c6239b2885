use mathlib.Core.Path.{◌≡◌, sym, subst, ap, ◌∙◌}
use Prim.Native.Nat.{ℕ, ◌≤◌, ◌-◌}
use native.Mathlib.Omega.{arith}
use borrow.Author.Rules.{rules}
use lib.ListN.{length}
use Rattle.laws.specs.Cells.{part}
use Rattle.policy.specs.Fields.{pieces}
use Rattle.policy.specs.Front.{WholeAt}
use Rattle.policy.specs.Meaning.{any_group}
use Rattle.policy_fields.specs.Fields.{FieldIs}
use Rattle.policy_attribute.proofs.Groups.{any-start, any-done, any_here, any-cut, any-past}
use Rattle.policy_attribute.proofs.any_group.Goals as goal

pub loop-at-init : goal.loop-at-init
loop-at-init c =
    (omega arith, any-start c.args.part.now)

pub returns-then-part-at-eq-GROUP_TAG : goal.returns-then-part-at-eq-GROUP_TAG
returns-then-part-at-eq-GROUP_TAG c =
    let l = c.loop-at in
    let f = c.args.part.now in
    sym (l.invariant.1 ∙ any_here f l.at (length f) (omega arith) c.loop-at-test.true c.if-part-at-eq-GROUP_TAG.true)

pub field_at-requires : goal.field_at-requires
field_at-requires c =
    (omega arith, omega arith)

pub returns-in-Cut : goal.returns-in-Cut
returns-in-Cut c =
    let l = c.loop-at in
    let f = c.args.part.now in
    let e = subst (FieldIs f l.at (length f)) c.in-Cut.is c.field_at.ensures in
    sym (l.invariant.1 ∙ any-cut f l.at (length f) (omega arith) c.loop-at-test.true c.if-part-at-eq-GROUP_TAG.false e)

pub loop-at-smaller : goal.loop-at-smaller
loop-at-smaller c =
    let whole : let f = c.args.part.now in
    WholeAt f c.loop-at.at (length f) c.in-Whole.tag c.in-Whole.next = let f = c.args.part.now in
    subst (FieldIs f c.loop-at.at (length f)) c.in-Whole.is c.field_at.ensures in
    let w = whole in omega arith

pub loop-at-preserved : goal.loop-at-preserved
loop-at-preserved c =
    let whole : let f = c.args.part.now in
    WholeAt f c.loop-at.at (length f) c.in-Whole.tag c.in-Whole.next = let f = c.args.part.now in
    subst (FieldIs f c.loop-at.at (length f)) c.in-Whole.is c.field_at.ensures in
    let l = c.loop-at in
    let f = c.args.part.now in
    let w = whole in
    (w.inside, l.invariant.1 ∙ any-past f l.at (length f) (omega arith) c.loop-at-test.true c.if-part-at-eq-GROUP_TAG.false _ _ w)

pub returns : goal.returns
returns c =
    let f = c.args.part.now in
    let e : c.loop-at.at ≡ length f = omega arith in
    sym (c.loop-at.invariant.1 ∙ ap (λ (k : ℕ). any_group (pieces (part f k (length f)))) e ∙ any-done f (length f))
