-- The invariant: the rows of the threads before `t` are filled.
use mathlib.Core.Path.{◌≡◌, sym, ◌∙◌}
use Prim.Native.Nat.{◌-◌, ◌≤◌}
use native.Mathlib.Omega.{arith}
use Rattle.access.specs.Limits.{max_threads}
use Rattle.domain_order.specs.Order.{OrdersTo}
use Rattle.domain_order.proofs.Orders.{orders_none, orders_more}
use Rattle.domain_order.proofs.fill_orders.Given as goal

abbrev pub invariant-loop-t : goal.invariant-loop-t
invariant-loop-t l = (l.t ≤ max_threads) × OrdersTo l.layers l.threads l.orders l.t

abbrev pub decreases-loop-t : goal.decreases-loop-t
decreases-loop-t l = max_threads - l.t
