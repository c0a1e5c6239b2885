use borrow.Author.Tests.{le-leb}
use Rattle.access.specs.Rights.{known_fs}
use native.Mathlib.Omega.{arith}
use Rattle.access.proofs.rights.Rights.known_fs.Goals as goal

pub returns-in-0 : goal.returns-in-0
unfolding known_fs
returns-in-0 c =
    rw c.in-0.is

pub returns-in-1 : goal.returns-in-1
unfolding known_fs
returns-in-1 c =
    rw c.in-1.is

pub returns-in-2 : goal.returns-in-2
unfolding known_fs
returns-in-2 c =
    rw c.in-2.is

pub returns-in-3 : goal.returns-in-3
unfolding known_fs
returns-in-3 c =
    rw c.in-3.is

pub returns-in-4 : goal.returns-in-4
unfolding known_fs
returns-in-4 c =
    rw c.in-4.is

pub returns-in_default : goal.returns-in_default
unfolding known_fs
returns-in_default c =
    let n = c.args.level in simp (le-leb 1 n (omega arith), le-leb 2 n (omega arith), le-leb 3 n (omega arith), le-leb 5 n (omega arith))
