use mathlib.Core.Path.{◌≡◌, refl, sym, subst, ap, ◌∙◌}
use Prim.Native.Nat.{ℕ, ◌≤◌, ◌-◌}
use native.Mathlib.Omega.{arith}
use borrow.Author.Rules.{rules}
use lib.ListN.{length}
use Rattle.laws.specs.Cells.{part}
use Rattle.policy.specs.Fields.{pieces}
use Rattle.policy.specs.Front.{WholeAt}
use Rattle.policy.specs.Files.{first_place}
use Rattle.policy.specs.Find.{is_opening, next_ruleset}
use Rattle.policy.proofs.Walks.{first_done, first-here, first_past, first-cut}
use Rattle.policy_fields.specs.Fields.{FieldIs}
use Rattle.policy_find.proofs.Finding.{opening, no_opening}
use Rattle.policy_find.proofs.next_ruleset.Goals as goal

pub loop-at-init : goal.loop-at-init
loop-at-init c =
    (c.requires, refl)

pub returns-then-f-at-eq-RULESET_TAG : goal.returns-then-f-at-eq-RULESET_TAG
returns-then-f-at-eq-RULESET_TAG c =
    let l = c.loop-at in
    let f = c.args.f.now in
    sym (l.invariant.1 ∙ first-here is_opening f l.at (length f) (omega arith) c.loop-at-test.true (opening f l.at (length f) (omega arith) c.loop-at-test.true c.if-f-at-eq-RULESET_TAG.true))

pub field_at-requires : goal.field_at-requires
field_at-requires c =
    (omega arith, omega arith)

pub returns-in-Cut : goal.returns-in-Cut
returns-in-Cut c =
    let l = c.loop-at in
    let f = c.args.f.now in
    let e = subst (FieldIs f l.at (length f)) c.in-Cut.is c.field_at.ensures in
    sym (l.invariant.1 ∙ first-cut is_opening f l.at (length f) (omega arith) c.loop-at-test.true e (no_opening f l.at (length f) (omega arith) c.loop-at-test.true c.if-f-at-eq-RULESET_TAG.false))

pub loop-at-smaller : goal.loop-at-smaller
loop-at-smaller c =
    let whole : let f = c.args.f.now in
    WholeAt f c.loop-at.at (length f) c.in-Whole.tag c.in-Whole.next = let f = c.args.f.now in
    subst (FieldIs f c.loop-at.at (length f)) c.in-Whole.is c.field_at.ensures in
    let w = whole in omega arith

pub loop-at-preserved : goal.loop-at-preserved
loop-at-preserved c =
    let whole : let f = c.args.f.now in
    WholeAt f c.loop-at.at (length f) c.in-Whole.tag c.in-Whole.next = let f = c.args.f.now in
    subst (FieldIs f c.loop-at.at (length f)) c.in-Whole.is c.field_at.ensures in
    let l = c.loop-at in
    let f = c.args.f.now in
    let w = whole in
    (w.inside, l.invariant.1 ∙ first_past is_opening f l.at (length f) (omega arith) c.loop-at-test.true _ _ w (no_opening f l.at (length f) (omega arith) c.loop-at-test.true c.if-f-at-eq-RULESET_TAG.false))

pub returns : goal.returns
returns c =
    let f = c.args.f.now in
    let e : c.loop-at.at ≡ length f = omega arith in
    sym (c.loop-at.invariant.1 ∙ ap (λ (k : ℕ). first_place is_opening k (pieces (part f k (length f)))) e ∙ first_done is_opening f (length f))
