-- The invariant: the cells before `l` are filled, all others as they were.
use mathlib.Core.Path.{◌≡◌, ap, ◌∙◌}
use mathlib.Core.List.{List}
use Prim.Native.Nat.{ℕ, ◌-◌, ◌≤◌}
use native.Mathlib.Omega.{arith}
use borrow.Author.Rules.{rules}
use Rattle.tables.specs.Tables.{path_rule, object}
use Rattle.judge.specs.Rules.{rights_on}
use Rattle.denied_rows.specs.Rows.{RowTo}
use Rattle.denied_rows.proofs.Kept.{row_none, row_more, without-few, masks-few}
use Rattle.denied_rows.proofs.fill_cells.Given as goal

abbrev pub invariant-loop-l : goal.invariant-loop-l
invariant-loop-l l = (l.l ≤ l.top) × RowTo l.entries l.layers l.pool l.initial.rows l.rows l.e l.l

abbrev pub decreases-loop-l : goal.decreases-loop-l
decreases-loop-l l = l.top - l.l
