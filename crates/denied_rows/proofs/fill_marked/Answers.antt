use native.Mathlib.Omega.{arith}
use borrow.Author.Rules.{rules}
use Rattle.denied_rows.proofs.Kept.{live-few, top_few, row_added}
use Rattle.denied_rows.proofs.fill_marked.Goals as goal

pub fill_cells-requires : goal.fill_cells-requires
fill_cells-requires c =
    let p = c.requires in
    let t = top_few c.args.layers.now in
    let e = p.1.1.0 in
    (p.0, ((live-few _ _ _ p.0 _ p.1.0.0, p.1.0.0), (p.1.1.1.cells, omega arith)))

pub bounds-marks-e : goal.bounds-marks-e
bounds-marks-e c =
    let p = c.requires in
    let i = live-few _ _ _ p.0 _ p.1.0.0 in
    let w = p.1.1.1.few in
    omega arith

pub returns : goal.returns
returns c =
    let p = c.requires in
    row_added _ _ _ _ _ p.1.1.1 _ p.0 p.1.0.0 p.1.0.1 p.1.1.0 c.fill_cells.ensures (live-few _ _ _ p.0 _ p.1.0.0)
