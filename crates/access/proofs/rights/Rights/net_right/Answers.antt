use borrow.Author.Tests.{le-leb}
use Rattle.access.specs.Rights.{right_at}
use native.Mathlib.Omega.{arith}
use Rattle.access.proofs.rights.Rights.net_right.Goals as goal

pub returns-in-0 : goal.returns-in-0
unfolding right_at
returns-in-0 c =
    rw c.in-0.is

pub returns-in-1 : goal.returns-in-1
unfolding right_at
returns-in-1 c =
    rw c.in-1.is

pub returns-in_default : goal.returns-in_default
unfolding right_at
returns-in_default c =
    simp (le-leb 2 c.args.i (omega arith))
