-- Each return tells of the form that is read by pairs.
use mathlib.Core.Path.{sym, ap, ◌∙◌}
use mathlib.Core.Bool.{not}
use Prim.Native.Nat.{◌≤◌, ◌<◌}
use native.Mathlib.Omega.{arith}
use lib.ListN.{get_or}
use borrow.Author.Rules.{rules}
use borrow.Author.Tests.{not-true, not-false}
use Rattle.laws.proofs.Conditions.{all-is, last, fails, holds, fails_eq, holds_ne, fails_gt, holds_le}
use Rattle.names.specs.Names.{max_name}
use Rattle.sound_names_rows.specs.Form.{ends_at, is_dots, form_sound}
use Rattle.sound_names_rows.proofs.Form.{form_is}
use Rattle.sound_names_rows.proofs.name_sound.Goals as goal

pub returns-then-n-eq0 : goal.returns-then-n-eq0
unfolding form_sound
returns-then-n-eq0 c =
    let e = c.wide-n.ensures.0 in
    all-is (fails_eq (sym e ∙ c.if-n-eq0.true)) ∙ form_is _ c.requires

pub returns-then-n-gt-MAX_NAME : goal.returns-then-n-gt-MAX_NAME
unfolding form_sound
returns-then-n-gt-MAX_NAME c =
    let e = c.wide-n.ensures.0 in
    let g : max_name < get_or c.args.row.now 0 0 = omega arith in
    all-is (holds_ne (λ z. c.if-n-eq0.false (e ∙ z)) (fails_gt g)) ∙ form_is _ c.requires

pub returns-then-not-pairs_fitting : goal.returns-then-not-pairs_fitting
unfolding form_sound
returns-then-not-pairs_fitting c =
    let e = c.wide-n.ensures.0 in
    let g : get_or c.args.row.now 0 0 ≤ max_name = omega arith in
    all-is (holds_ne (λ z. c.if-n-eq0.false (e ∙ z)) (holds_le g (fails (sym c.pairs_fitting.ensures ∙ c.if-not-pairs_fitting.true)))) ∙ form_is _ c.requires

pub returns-then-not-ends_at : goal.returns-then-not-ends_at
unfolding form_sound
returns-then-not-ends_at c =
    let e = c.wide-n.ensures.0 in
    let g : get_or c.args.row.now 0 0 ≤ max_name = omega arith in
    all-is (holds_ne (λ z. c.if-n-eq0.false (e ∙ z)) (holds_le g (holds (sym c.pairs_fitting.ensures ∙ c.if-not-pairs_fitting.false)
    (fails (ap (ends_at c.args.row.now) (sym e) ∙ sym c.ends_at.ensures ∙ c.if-not-ends_at.true))))) ∙ form_is _ c.requires

pub returns : goal.returns
unfolding form_sound
returns c =
    let e = c.wide-n.ensures.0 in
    let g : get_or c.args.row.now 0 0 ≤ max_name = omega arith in
    all-is (holds_ne (λ z. c.if-n-eq0.false (e ∙ z)) (holds_le g (holds (sym c.pairs_fitting.ensures ∙ c.if-not-pairs_fitting.false)
    (holds (ap (ends_at c.args.row.now) (sym e) ∙ sym c.ends_at.ensures ∙ c.if-not-ends_at.false)
    (last (ap not (c.is_dots.ensures ∙ ap (is_dots c.args.row.now) e))))))) ∙ form_is _ c.requires
