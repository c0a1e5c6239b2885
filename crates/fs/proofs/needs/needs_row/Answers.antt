use mathlib.Core.Path.{ap₂}
use native.Mathlib.Omega.{arith}
use borrow.Author.Rules.{rules}
use Rattle.fs.specs.NeedsTable.{needs_row}
use Rattle.fs.proofs.needs.needs_row.Goals as goal

pub returns : goal.returns
unfolding needs_row
returns c =
    (rw (c.step_number.ensures.0, c.kind_number.ensures.0, c.other_number.ensures.0, c.same_number.ensures.0), omega arith)
