-- The invariant: the rest of the order decides.
use mathlib.Core.Path.{◌≡◌, refl}
use Prim.Native.Nat.{◌-◌}
use native.Mathlib.Omega.{arith}
use lib.ListN.{get_or}
use borrow.Author.Tests.{not-true, not-false}
use Rattle.access.specs.Limits.{max_domain}
use Rattle.verdict.specs.Denial.{denial}
use Rattle.domain_order.specs.Order.{listed}
use Rattle.row_walks.specs.Rows.{rows_denied, rows_crossed}
use Rattle.row_walks.proofs.Lists.{list_none, list_end, list_hit, list_up}
use Rattle.row_walks.proofs.move_walk.Given as goal

abbrev pub invariant-loop-i : goal.invariant-loop-i
invariant-loop-i l = denial (rows_denied l.row1 l.row2 l.m) (rows_crossed l.layers l.pool l.row1 l.row2 l.m) 0 0 (listed l.order 0 max_domain)
    ≡ denial (rows_denied l.row1 l.row2 l.m) (rows_crossed l.layers l.pool l.row1 l.row2 l.m) l.k l.set (listed l.order l.i (max_domain - l.i))

abbrev pub decreases-loop-i : goal.decreases-loop-i
decreases-loop-i l = max_domain - l.i
