use mathlib.Core.Path.{◌≡◌, refl, sym, ◌∙◌}
use Prim.Native.Nat.{◌+◌, ◌≤◌, ◌-◌}
use native.Mathlib.Omega.{arith}
use lib.ListN.{length, drop, length-set}
use lib.Seq.{sets}
use Rattle.policy_bytes.proofs.Puts.{bytes-start, bytes-turn, bytes-done}
use Rattle.policy_bytes.proofs.put_bytes.Goals as goal

pub loop-i-init : goal.loop-i-init
loop-i-init c =
    (omega arith, refl, bytes-start c.args.out.now c.args.at c.args.src.now)

pub loop-i-preserved : goal.loop-i-preserved
loop-i-preserved c =
    let a = c.args in
    (omega arith, simp length-set c.loop-i.invariant.1, c.loop-i.invariant.2 ∙ bytes-turn c.loop-i.out a.at a.src.now c.loop-i.i c.loop-i-test.true)

pub shape_of-out : goal.shape_of-out
shape_of-out c =
    c.loop-i.invariant.1

pub returns : goal.returns
returns c =
    sym (c.loop-i.invariant.2 ∙ bytes-done c.loop-i.out c.args.at c.args.src.now c.loop-i.i c.loop-i-test.false)
