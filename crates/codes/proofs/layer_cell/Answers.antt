use native.Mathlib.Omega.{arith}
use borrow.Author.Tests.{lt-ltb, le-ltb}
use Rattle.codes.specs.Codes.{layer_cell}
use Rattle.codes.proofs.layer_cell.Goals as goal

pub returns-then-l : goal.returns-then-l
unfolding layer_cell
returns-then-l c =
    rw (lt-ltb _ _ c.if-l.true)

pub returns : goal.returns
unfolding layer_cell
returns c =
    rw (le-ltb _ _ c.if-l.false)
