use mathlib.Core.Path.{◌≡◌, refl, sym, ◌∙◌}
use Prim.Native.Nat.{◌+◌, ◌≤◌, ◌-◌}
use native.Mathlib.Omega.{arith}
use lib.ListN.{length, length-set}
use lib.Seq.{sets}
use Rattle.policy.specs.Fields.{bytes_of}
use Rattle.policy_bytes.proofs.Puts.{number-start, number-turn, number-done}
use Rattle.policy_bytes.proofs.put_number.Goals as goal

pub loop-i-init : goal.loop-i-init
loop-i-init c =
    (omega arith, refl, number-start c.args.out.now c.args.at c.args.x c.args.n)

pub loop-i-preserved : goal.loop-i-preserved
loop-i-preserved c =
    let a = c.args in
    (omega arith, simp length-set c.loop-i.invariant.1, c.loop-i.invariant.2 ∙ number-turn c.loop-i.out a.at c.loop-i.rest a.n c.loop-i.i c.loop-i-test.true)

pub shape_of-out : goal.shape_of-out
shape_of-out c =
    c.loop-i.invariant.1

pub returns : goal.returns
returns c =
    sym (c.loop-i.invariant.2 ∙ number-done c.loop-i.out c.args.at c.loop-i.rest c.args.n c.loop-i.i c.loop-i-test.false)
