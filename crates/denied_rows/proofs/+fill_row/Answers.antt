use mathlib.Core.Path.{sym, ◌∙◌}
use native.Mathlib.Omega.{arith}
use borrow.Author.Rules.{rules}
use Rattle.sound_tree.proofs.Climb.{reaches_up}
use Rattle.denied_rows.proofs.Kept.{live-few, some_left, row_there, row_then}
use Rattle.denied_rows.proofs.+fill_row.Goals as goal

pub bounds-marks-e : goal.bounds-marks-e
bounds-marks-e t c =
    let p = c.requires in
    let i = live-few _ _ _ p.0 _ p.1.0.0 in
    let w = p.1.1.1.few in
    omega arith

pub overflow_mul-parent : goal.overflow_mul-parent
overflow_mul-parent t c =
    let p = c.requires in let i = live-few _ _ _ p.0 _ p.1.0.0 in omega arith

pub overflow_add-parent : goal.overflow_add-parent
overflow_add-parent t c =
    let p = c.requires in let i = live-few _ _ _ p.0 _ p.1.0.0 in omega arith

pub offset_bounds-entries-e : goal.offset_bounds-entries-e
offset_bounds-entries-e t c =
    let p = c.requires in let i = live-few _ _ _ p.0 _ p.1.0.0 in omega arith

pub bounds-entries-e : goal.bounds-entries-e
bounds-entries-e t c =
    let p = c.requires in let i = live-few _ _ _ p.0 _ p.1.0.0 in let w = p.0.long in omega arith

pub overflow_sub-left : goal.overflow_sub-left
overflow_sub-left t c =
    let r = some_left _ c.args.left _ c.requires.1.0.1 c.if-e-eq0.false in
    omega arith

pub fill_row-requires : goal.fill_row-requires
fill_row-requires t c =
    let p = c.requires in
    let d = c.if-e-eq0.false in
    let r = some_left _ c.args.left _ p.1.0.1 d in
    let m = c.decreases in
    (omega arith, (p.0, (((p.0.parents _ p.1.0.0).1, sym (reaches_up _ c.args.left _ d r) ∙ p.1.0.1), p.1.1)))
