use mathlib.Core.Path.{◌≡◌, refl, sym, subst, ◌∙◌}
use Prim.Native.Nat.{◌-◌, ◌≤◌}
use native.Mathlib.Omega.{arith}
use borrow.Author.Rules.{rules}
use borrow.Author.Tests.{not-true, not-false}
use lib.ListN.{length}
use Rattle.laws.specs.Cells.{part}
use Rattle.policy.specs.Fields.{pieces}
use Rattle.policy.specs.Front.{WholeAt}
use Rattle.policy.proofs.Parts.{part-all}
use Rattle.policy_fields.specs.Fields.{FieldIs}
use Rattle.tree_log.specs.Replay.{replayed}
use Rattle.log_checks.specs.Checks.{tree_with}
use Rattle.log_replay.specs.Replays.{SoundTree, replayed_as}
use Rattle.log_replay.proofs.Steps.{goes_on, sound-on, stops, tail, ends}
use Rattle.log_replay.proofs.replay_fields.Goals as goal

pub loop-at-init : goal.loop-at-init
unfolding replayed_as
loop-at-init c =
    (omega arith, refl, refl, c.requires, rw (part-all c.args.log.now))

pub shape_of-entries-in_default : goal.shape_of-entries-in_default
unfolding replayed_as
shape_of-entries-in_default c =
    c.loop-at.invariant.1

pub shape_of-names-in_default : goal.shape_of-names-in_default
unfolding replayed_as
shape_of-names-in_default c =
    c.loop-at.invariant.2

pub returns-in_default : goal.returns-in_default
unfolding replayed_as
returns-in_default c =
    let f = c.args.log.now in
    let e = subst (FieldIs f c.loop-at.at (length f)) c.in_default.is c.field_at.ensures in
    sym (c.loop-at.invariant.4 ∙ tail _ c.loop-at.invariant.3 f c.loop-at.at (length f) (omega arith) e)

pub overflow_add-from : goal.overflow_add-from
unfolding replayed_as
overflow_add-from c =
    let whole-at : let f = c.args.log.now in
    WholeAt f c.loop-at.at (length f) c.in-Whole.tag c.in-Whole.after = let f = c.args.log.now in
    subst (FieldIs f c.loop-at.at (length f)) c.in-Whole.is c.field_at.ensures in
    let w = whole-at in omega arith

pub slice_bounds-try_field-count : goal.slice_bounds-try_field-count
unfolding replayed_as
slice_bounds-try_field-count c =
    let whole-at : let f = c.args.log.now in
    WholeAt f c.loop-at.at (length f) c.in-Whole.tag c.in-Whole.after = let f = c.args.log.now in
    subst (FieldIs f c.loop-at.at (length f)) c.in-Whole.is c.field_at.ensures in
    let w = whole-at in omega arith

pub slice_bounds-try_field-start : goal.slice_bounds-try_field-start
unfolding replayed_as
slice_bounds-try_field-start c =
    let whole-at : let f = c.args.log.now in
    WholeAt f c.loop-at.at (length f) c.in-Whole.tag c.in-Whole.after = let f = c.args.log.now in
    subst (FieldIs f c.loop-at.at (length f)) c.in-Whole.is c.field_at.ensures in
    let w = whole-at in omega arith

pub slice_bounds-try_field-end : goal.slice_bounds-try_field-end
unfolding replayed_as
slice_bounds-try_field-end c =
    let whole-at : let f = c.args.log.now in
    WholeAt f c.loop-at.at (length f) c.in-Whole.tag c.in-Whole.after = let f = c.args.log.now in
    subst (FieldIs f c.loop-at.at (length f)) c.in-Whole.is c.field_at.ensures in
    let w = whole-at in omega arith

pub returns-then-not-try_field : goal.returns-then-not-try_field
unfolding replayed_as
returns-then-not-try_field c =
    let whole-at : let f = c.args.log.now in
    WholeAt f c.loop-at.at (length f) c.in-Whole.tag c.in-Whole.after = let f = c.args.log.now in
    subst (FieldIs f c.loop-at.at (length f)) c.in-Whole.is c.field_at.ensures in
    let f = c.args.log.now in
    sym (c.loop-at.invariant.4 ∙ stops _ c.loop-at.invariant.3 f c.loop-at.at (length f) (whole-at) c.try_field.ensures (c.if-not-try_field.true))

pub loop-at-smaller : goal.loop-at-smaller
unfolding replayed_as
loop-at-smaller c =
    let whole-at : let f = c.args.log.now in
    WholeAt f c.loop-at.at (length f) c.in-Whole.tag c.in-Whole.after = let f = c.args.log.now in
    subst (FieldIs f c.loop-at.at (length f)) c.in-Whole.is c.field_at.ensures in
    let w = whole-at in omega arith

pub loop-at-preserved : goal.loop-at-preserved
unfolding replayed_as
loop-at-preserved c =
    let whole-at : let f = c.args.log.now in
    WholeAt f c.loop-at.at (length f) c.in-Whole.tag c.in-Whole.after = let f = c.args.log.now in
    subst (FieldIs f c.loop-at.at (length f)) c.in-Whole.is c.field_at.ensures in
    let f = c.args.log.now in
    let w = whole-at in
    let h = c.if-not-try_field.false in (
      w.inside,
      search rules,
      search rules,
      sound-on _ c.loop-at.invariant.3 f c.loop-at.at (length f) w c.try_field.ensures h,
      c.loop-at.invariant.4 ∙ goes_on _ c.loop-at.invariant.3 f c.loop-at.at (length f) w c.try_field.ensures h,
    )

pub shape_of-entries : goal.shape_of-entries
unfolding replayed_as
shape_of-entries c =
    c.loop-at.invariant.1

pub shape_of-names : goal.shape_of-names
unfolding replayed_as
shape_of-names c =
    c.loop-at.invariant.2

pub returns : goal.returns
unfolding replayed_as
returns c =
    let f = c.args.log.now in
    sym (c.loop-at.invariant.4 ∙ ends _ c.loop-at.invariant.3 f c.loop-at.at (length f) (omega arith))
