use mathlib.Core.Path.{◌≡◌, refl}
use Prim.Native.Nat.{◌-◌}
use native.Mathlib.Omega.{arith}
use lib.ListN.{get_or}
use borrow.Author.Tests.{not-true, not-false}
use Rattle.access.specs.Limits.{max_domain}
use Rattle.judge.specs.Blame.{none}
use Rattle.verdict.specs.Denial.{denial}
use Rattle.verdict.proofs.Denials.{crossed-none}
use Rattle.domain_order.specs.Order.{listed}
use Rattle.row_walks.specs.Rows.{row_denied}
use Rattle.row_walks.proofs.Lists.{list_none, list_end, list_hit, list_up}
use Rattle.row_walks.proofs.entry_walk.Goals as goal

pub bounds-order-i : goal.bounds-order-i
bounds-order-i c =
    let w = c.requires.0.long in omega arith

pub overflow_cast-at : goal.overflow_cast-at
overflow_cast-at c =
    omega (arith, c.shared_slice_known-in-loop-i-1.given c.loop-i.i)

pub returns-then-at-eq0 : goal.returns-then-at-eq0
returns-then-at-eq0 c =
    let l = c.loop-i in
    list_end _ _ _ 0 0 l.i l.invariant (omega arith) c.if-at-eq0.true (crossed-none 0 0 refl)

pub offset_bounds-row-l : goal.offset_bounds-row-l
offset_bounds-row-l c =
    omega (arith, c.shared_slice_known-in-loop-i-1.given c.loop-i.i)

pub bounds-row-l : goal.bounds-row-l
bounds-row-l c =
    let l = c.loop-i in
    let p = c.requires in
    let f = p.0.few l.i (omega arith) in
    let w = p.1 in
    omega arith

pub overflow_cast-row : goal.overflow_cast-row
overflow_cast-row c =
    let a = c.args in omega (arith, c.shared_slice_known-in-loop-i-2-1.given (get_or a.order.now c.loop-i.i 0 - 1))

pub returns-then-not-is_empty : goal.returns-then-not-is_empty
returns-then-not-is_empty c =
    let l = c.loop-i in
    list_hit _ _ _ 0 0 l.i l.invariant (omega arith) c.if-at-eq0.false c.meet-denied.ensures c.is_empty.ensures (c.if-not-is_empty.true)

pub loop-i-preserved : goal.loop-i-preserved
loop-i-preserved c =
    let l = c.loop-i in
    list_up _ _ _ 0 0 l.i l.invariant (omega arith) c.if-at-eq0.false c.meet-denied.ensures c.is_empty.ensures (c.if-not-is_empty.false) refl refl refl

pub returns : goal.returns
returns c =
    let l = c.loop-i in
    list_none _ _ _ 0 0 l.i l.invariant (omega arith) (crossed-none 0 0 refl)
