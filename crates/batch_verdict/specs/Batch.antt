-- Document 02, W9: a batch's verdicts, by orders and rows that are kept from one request to the next.
use Rattle.std.specs.Prelude.{◌≡◌, List, ℕ, ◌*◌, length}
use Rattle.access.specs.Limits.{max_threads}
use Rattle.tables.specs.Tables.{thread_width, youngest}
use Rattle.denied_rows.specs.Rows.{top_of, RowsReady, RowsKept}
use Rattle.domain_order.specs.Order.{Walkable, OrdersTo}

-- what a batch knows once its tables passed the soundness test, and keeps from one request to the next
pub record BatchReady (es ls ps ts orders : List ℕ) (top : ℕ) (rows marks : List ℕ) : Type 0 where
  pub rows_ready : RowsReady es ls ps
  -- "table lengths are right"
  pub long : length ts ≡ thread_width * max_threads
  -- "threads name only those" layers in use, and so do parents
  pub walks : (t : ℕ) → Walkable ls (youngest ts t)
  pub ordered : OrdersTo ls ts orders max_threads
  pub highest : top ≡ top_of ls
  pub kept : RowsKept es ls ps rows marks
