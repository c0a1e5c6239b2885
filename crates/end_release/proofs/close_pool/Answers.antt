use mathlib.Core.Path.{◌≡◌, refl, ap, ◌∙◌}
use Prim.Native.Nat.{ℕ, ◌≤◌, ◌-◌, ◌+◌, ◌*◌, min}
use native.Mathlib.Omega.{arith}
use borrow.Author.Rules.{rules}
use lib.ListN.{length, drop, length-set}
use Rattle.laws.specs.Cells.{copied}
use Rattle.laws.proofs.Copies.{copied_none}
use Rattle.tables.specs.Tables.{rule_width}
use Rattle.domain_end.proofs.Loops.{close_more, close_all}
use Rattle.end_release.proofs.close_pool.Goals as goal

pub loop-i-init : goal.loop-i-init
loop-i-init c =
    let p = c.row_start-low.ensures in
    let q = c.row_start-gap.ensures in
    let low = c.row_start-low.result in
    let gap = c.row_start-gap.result in
    let a = c.args in
    let z : low - low ≡ 0 = omega arith in
    (omega arith, omega arith, rw z (copied_none a.pool.now low (drop (low + gap) a.pool.now)), refl, p, q)

pub loop-i-preserved : goal.loop-i-preserved
loop-i-preserved c =
    let l = c.loop-i in
    let a = c.args in
    (omega arith, omega arith, close_more a.pool.now c.row_start-low.result c.row_start-gap.result l.i _ l.pool _ l.invariant.0 l.invariant.2 c.cell_after.ensures refl, length-set l.pool l.i _ ∙ l.invariant.3, l.invariant.4, l.invariant.5)

pub shape_of-pool : goal.shape_of-pool
shape_of-pool c =
    c.loop-i.invariant.3

pub returns : goal.returns
returns c =
    let l = c.loop-i in
    let a = c.args in
    let e : l.i ≡ length a.pool.now = omega arith in
    l.invariant.2 ∙ ap (λ (n : ℕ). copied a.pool.now c.row_start-low.result (drop (c.row_start-low.result + c.row_start-gap.result) a.pool.now) (n - c.row_start-low.result)) e
    ∙ close_all a.pool.now a.first a.count c.row_start-low.result c.row_start-gap.result l.invariant.4 l.invariant.5
