use mathlib.Core.Path.{◌≡◌, sym, ◌∙◌}
use Prim.Native.Nat.{◌-◌, ◌≤◌}
use native.Mathlib.Omega.{arith}
use Rattle.access.specs.Limits.{max_threads}
use Rattle.domain_order.specs.Order.{OrdersTo}
use Rattle.domain_order.proofs.Orders.{orders_none, orders_more}
use Rattle.domain_order.proofs.fill_orders.Goals as goal

pub loop-t-init : goal.loop-t-init
loop-t-init c =
    (omega arith, orders_none _ _ _ c.requires.1)

pub fill_order-requires : goal.fill_order-requires
fill_order-requires c =
    let l = c.loop-t in
    let p = c.requires in
    (rw c.youngest_of-y.ensures (p.0 l.t), (l.invariant.1.cells, omega arith))

pub loop-t-preserved : goal.loop-t-preserved
loop-t-preserved c =
    let l = c.loop-t in
    (omega arith, orders_more _ _ l.invariant.1 c.youngest_of-y.ensures c.fill_order.ensures)

pub shape_of-orders : goal.shape_of-orders
shape_of-orders c =
    c.loop-t.invariant.1.cells ∙ sym c.requires.1

pub returns : goal.returns
returns c =
    let l = c.loop-t in
    let z : l.t ≡ max_threads = omega arith in
    rw z at l.invariant.1
