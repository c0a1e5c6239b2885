-- Sixteen arms that did not match leave a number of at least 16.
use borrow.Author.Tests.{le-leb}
use Rattle.laws.proofs.Tests.{over, over_none}
use Rattle.access.specs.Rights.{right_at}
use native.Mathlib.Omega.{arith}
use Rattle.access.proofs.rights.Rights.fs_right.Goals as goal

pub returns-in-0 : goal.returns-in-0
unfolding right_at
returns-in-0 c =
    rw c.in-0.is

pub returns-in-1 : goal.returns-in-1
unfolding right_at
returns-in-1 c =
    rw c.in-1.is

pub returns-in-2 : goal.returns-in-2
unfolding right_at
returns-in-2 c =
    rw c.in-2.is

pub returns-in-3 : goal.returns-in-3
unfolding right_at
returns-in-3 c =
    rw c.in-3.is

pub returns-in-4 : goal.returns-in-4
unfolding right_at
returns-in-4 c =
    rw c.in-4.is

pub returns-in-5 : goal.returns-in-5
unfolding right_at
returns-in-5 c =
    rw c.in-5.is

pub returns-in-6 : goal.returns-in-6
unfolding right_at
returns-in-6 c =
    rw c.in-6.is

pub returns-in-7 : goal.returns-in-7
unfolding right_at
returns-in-7 c =
    rw c.in-7.is

pub returns-in-8 : goal.returns-in-8
unfolding right_at
returns-in-8 c =
    rw c.in-8.is

pub returns-in-9 : goal.returns-in-9
unfolding right_at
returns-in-9 c =
    rw c.in-9.is

pub returns-in-10 : goal.returns-in-10
unfolding right_at
returns-in-10 c =
    rw c.in-10.is

pub returns-in-11 : goal.returns-in-11
unfolding right_at
returns-in-11 c =
    rw c.in-11.is

pub returns-in-12 : goal.returns-in-12
unfolding right_at
returns-in-12 c =
    rw c.in-12.is

pub returns-in-13 : goal.returns-in-13
unfolding right_at
returns-in-13 c =
    rw c.in-13.is

pub returns-in-14 : goal.returns-in-14
unfolding right_at
returns-in-14 c =
    rw c.in-14.is

pub returns-in-15 : goal.returns-in-15
unfolding right_at
returns-in-15 c =
    rw c.in-15.is

pub returns-in_default : goal.returns-in_default
unfolding right_at
returns-in_default c = simp (le-leb 16 c.args.i (omega arith))
