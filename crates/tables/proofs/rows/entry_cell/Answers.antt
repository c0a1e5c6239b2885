-- Past the end a table reads as 0.
use Prim.Native.Nat.{◌+◌, ◌*◌}
use native.Mathlib.Omega.{arith}
use borrow.Author.Rules.{rules}
use Rattle.laws.proofs.Cells.{past}
use Rattle.tables.specs.Tables.{entry_width}
use Rattle.tables.proofs.rows.entry_cell.Goals as goal

pub returns-else-at-entries : goal.returns-else-at-entries
returns-else-at-entries c =
    let a = c.args in past a.entries.now (entry_width * a.e + a.k) (omega arith)

pub returns-else-i-entries : goal.returns-else-i-entries
returns-else-i-entries c =
    let a = c.args in past a.entries.now (entry_width * a.e + a.k) (omega arith)
