use native.Mathlib.Omega.{arith}
use borrow.Author.Rules.{rules}
use Rattle.denied_rows.proofs.Kept.{live-few, row_there}
use Rattle.denied_rows.proofs.need_row.Goals as goal

pub bounds-marks-e : goal.bounds-marks-e
bounds-marks-e c =
    let p = c.requires in
    let i = live-few _ _ _ p.0 _ p.1.0 in
    let w = p.1.1.1.few in
    omega arith

pub returns-then-marks-e-ne0 : goal.returns-then-marks-e-ne0
returns-then-marks-e-ne0 c =
    row_there _ _ _ _ _ c.requires.1.1.1 _ c.if-marks-e-ne0.true

pub fill_row-requires : goal.fill_row-requires
fill_row-requires c =
    let p = c.requires in (p.0, ((p.1.0, p.0.ends _ p.1.0), p.1.1))
