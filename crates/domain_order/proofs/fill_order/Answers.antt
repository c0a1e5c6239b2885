use mathlib.Core.Path.{◌≡◌}
use Prim.Native.Nat.{◌-◌, ◌≤◌}
use native.Mathlib.Omega.{arith}
use Rattle.access.specs.Limits.{max_domain}
use Rattle.denied_rows.proofs.Kept.{top_few}
use Rattle.domain_order.specs.Order.{up_by, OrderTo}
use Rattle.domain_order.proofs.Orders.{order_none, order_more, by_below, by_first, by_next}
use Rattle.domain_order.proofs.fill_order.Goals as goal

pub loop-i-init : goal.loop-i-init
loop-i-init c =
    ((omega arith, by_first _ _), order_none _ _ _ _)

pub overflow_cast-orders : goal.overflow_cast-orders
overflow_cast-orders c =
    let l = c.loop-i in
    let b = by_below _ _ c.requires.0 l.i in
    let f = top_few c.args.layers.now in
    let e = l.invariant.0.1 in
    omega arith

pub bounds-orders-t : goal.bounds-orders-t
bounds-orders-t c =
    let z = c.loop-i.invariant.1.size in let p = c.requires.1 in omega arith

pub loop-i-preserved : goal.loop-i-preserved
loop-i-preserved c =
    let l = c.loop-i in
    let z = l.invariant.1.size in
    let p = c.requires.1 in
    ((omega arith, by_next _ _ l.i l.invariant.0.1 c.layer_above-at.ensures), order_more _ _ _ _ _ l.i _ l.invariant.1 (omega arith) (omega arith) l.invariant.0.1)

pub shape_of-orders : goal.shape_of-orders
shape_of-orders c =
    c.loop-i.invariant.1.size

pub returns : goal.returns
returns c =
    let l = c.loop-i in
    let z : l.i ≡ max_domain = omega arith in
    rw z at l.invariant.1
