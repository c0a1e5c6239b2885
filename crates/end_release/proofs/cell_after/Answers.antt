-- Past the end a table reads as 0.
use Prim.Native.Nat.{◌+◌}
use native.Mathlib.Omega.{arith}
use borrow.Author.Rules.{rules}
use Rattle.laws.proofs.Cells.{past}
use Rattle.end_release.proofs.cell_after.Goals as goal

pub returns-else-more-pool : goal.returns-else-more-pool
returns-else-more-pool c =
    let a = c.args in past a.pool.now (a.at + a.more) (omega arith)
