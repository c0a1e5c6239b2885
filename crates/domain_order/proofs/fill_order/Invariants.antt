-- The invariant: the cells before `i` are filled, and `at` goes into the next one.
use mathlib.Core.Path.{◌≡◌}
use Prim.Native.Nat.{◌-◌, ◌≤◌}
use native.Mathlib.Omega.{arith}
use Rattle.access.specs.Limits.{max_domain}
use Rattle.denied_rows.proofs.Kept.{top_few}
use Rattle.domain_order.specs.Order.{up_by, OrderTo}
use Rattle.domain_order.proofs.Orders.{order_none, order_more, by_below, by_first, by_next}
use Rattle.domain_order.proofs.fill_order.Given as goal

abbrev pub invariant-loop-i : goal.invariant-loop-i
invariant-loop-i l = ((l.i ≤ max_domain) × (l.at ≡ up_by l.layers l.y l.i)) × OrderTo l.layers l.initial.orders l.orders l.t l.y l.i

abbrev pub decreases-loop-i : goal.decreases-loop-i
decreases-loop-i l = max_domain - l.i
