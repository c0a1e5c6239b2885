use mathlib.Core.Path.{◌≡◌, refl}
use Prim.Native.Nat.{◌-◌}
use native.Mathlib.Omega.{arith}
use lib.ListN.{get_or}
use borrow.Author.Tests.{not-true, not-false}
use Rattle.access.specs.Limits.{max_domain}
use Rattle.verdict.specs.Denial.{denial}
use Rattle.domain_order.specs.Order.{listed}
use Rattle.row_walks.specs.Rows.{rows_denied, rows_crossed}
use Rattle.row_walks.proofs.Lists.{list_none, list_end, list_hit, list_up}
use Rattle.row_walks.proofs.move_walk.Goals as goal

pub bounds-order-i : goal.bounds-order-i
bounds-order-i c =
    let w = c.requires.0.long in omega arith

pub overflow_cast-at : goal.overflow_cast-at
overflow_cast-at c =
    omega (arith, c.shared_slice_known-in-loop-i-1.given c.loop-i.i)

pub returns-then-at-eq0 : goal.returns-then-at-eq0
returns-then-at-eq0 c =
    let l = c.loop-i in
    list_end _ _ _ l.k l.set l.i l.invariant (omega arith) c.if-at-eq0.true c.crossed_at.ensures

pub offset_bounds-row1-j : goal.offset_bounds-row1-j
offset_bounds-row1-j c =
    omega (arith, c.shared_slice_known-in-loop-i-1.given c.loop-i.i)

pub bounds-row1-j : goal.bounds-row1-j
bounds-row1-j c =
    let p = c.requires in
    let f = p.0.few c.loop-i.i (omega arith) in
    let w = p.1.0 in
    omega arith

pub overflow_cast-d1 : goal.overflow_cast-d1
overflow_cast-d1 c =
    let a = c.args in omega (arith, c.shared_slice_known-in-loop-i-2-1.given (get_or a.order.now c.loop-i.i 0 - 1))

pub offset_bounds-row2-j : goal.offset_bounds-row2-j
offset_bounds-row2-j c =
    omega (arith, c.shared_slice_known-in-loop-i-1.given c.loop-i.i)

pub bounds-row2-j : goal.bounds-row2-j
bounds-row2-j c =
    let p = c.requires in
    let f = p.0.few c.loop-i.i (omega arith) in
    let w = p.1.1 in
    omega arith

pub overflow_cast-row2 : goal.overflow_cast-row2
overflow_cast-row2 c =
    let a = c.args in omega (arith, c.shared_slice_known-in-loop-i-3-1.given (get_or a.order.now c.loop-i.i 0 - 1))

pub returns-then-not-is_empty : goal.returns-then-not-is_empty
returns-then-not-is_empty c =
    let l = c.loop-i in
    list_hit _ _ _ l.k l.set l.i l.invariant (omega arith) c.if-at-eq0.false c.held_by-held.ensures.needs c.is_empty.ensures (c.if-not-is_empty.true)

pub loop-i-preserved : goal.loop-i-preserved
loop-i-preserved c =
    let l = c.loop-i in
    list_up _ _ _ l.k l.set l.i l.invariant (omega arith) c.if-at-eq0.false c.held_by-held.ensures.needs c.is_empty.ensures (c.if-not-is_empty.false) c.held_by-held.ensures.crossed c.kept_set-set.ensures c.kept_at-k.ensures

pub returns : goal.returns
returns c =
    let l = c.loop-i in
    list_none _ _ _ l.k l.set l.i l.invariant (omega arith) c.crossed_at-2.ensures
