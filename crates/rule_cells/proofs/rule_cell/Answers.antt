-- Past the end a table reads as 0.
use Prim.Native.Nat.{◌+◌, ◌*◌}
use native.Mathlib.Omega.{arith}
use borrow.Author.Rules.{rules}
use Rattle.laws.proofs.Cells.{past}
use Rattle.tables.specs.Tables.{rule_width}
use Rattle.rule_cells.proofs.rule_cell.Goals as goal

pub returns-else-at-rules : goal.returns-else-at-rules
returns-else-at-rules c =
    let a = c.args in past a.rules.now (rule_width * a.i + a.k) (omega arith)

pub returns-else-i-rules : goal.returns-else-i-rules
returns-else-i-rules c =
    let a = c.args in past a.rules.now (rule_width * a.i + a.k) (omega arith)
