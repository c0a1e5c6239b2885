use Prim.Native.Nat.{◌+◌}
use native.Mathlib.Omega.{arith}
use borrow.Author.Rules.{rules}
use Rattle.policy.specs.Fields.{header}
use Rattle.policy_walk.proofs.Steps.{past-short, past_higher, past-reached}
use Rattle.policy_walk.proofs.past_group.Goals as goal

pub returns-then-next-from : goal.returns-then-next-from
returns-then-next-from c =
    let a = c.args in past-short a.f.now a.at a.next a.level c.if-next-from.true

pub overflow_cast-f : goal.overflow_cast-f
overflow_cast-f c =
    omega (arith, c.shared_slice_known-1.given (c.args.at + header))

pub returns-then-level-f : goal.returns-then-level-f
returns-then-level-f c =
    let a = c.args in past_higher a.f.now a.at a.next a.level c.if-next-from.false c.if-level-f.true

pub returns : goal.returns
returns c =
    let a = c.args in past-reached a.f.now a.at a.next a.level c.if-next-from.false c.if-level-f.false
