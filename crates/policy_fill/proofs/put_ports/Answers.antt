use mathlib.Core.Path.{◌≡◌, refl, sym, ap, ◌∙◌}
use native.Mathlib.Omega.{arith}
use borrow.Author.Rules.{rules}
use Prim.Native.Nat.{ℕ, ◌+◌, ◌-◌, ◌≤◌}
use lib.ListN.{length, get_or}
use lib.Seq.{sets}
use Rattle.policy_size.specs.Fields.{port_field, fields_in}
use Rattle.policy_size.proofs.Fields.{port-length}
use Rattle.policy_fill.proofs.Parts.{turn-length, turn-room, turn-bytes, turn_end}
use Rattle.policy_fill.proofs.put_ports.Goals as goal

pub loop-j-init : goal.loop-j-init
unfolding fields_in
loop-j-init c =
    let a = c.args in let z : a.from ≡ a.from + 0 = omega arith in (omega arith, refl, z)

pub bounds-order-j : goal.bounds-order-j
unfolding fields_in
bounds-order-j c =
    let t = c.loop-j-test.true in let r = c.requires.0 in omega arith

pub overflow_cast-i : goal.overflow_cast-i
unfolding fields_in
overflow_cast-i c =
    omega (arith, c.shared_slice_known-in-loop-j-1.given c.loop-j.j)

pub put_port_rule-at-requires : goal.put_port_rule-at-requires
unfolding fields_in
put_port_rule-at-requires c =
    let a = c.args in
    let l = c.loop-j in
    let t = c.loop-j-test.true in
    let n = port-length a.rules.now (get_or a.order.now l.j 0) in
    let r = turn-room (port_field a.rules.now) a.order.now a.out.now a.from l.j l.invariant.1 l.invariant.2 a.k t c.requires.1 in
    omega arith

pub overflow_add-j : goal.overflow_add-j
unfolding fields_in
overflow_add-j c =
    let t = c.loop-j-test.true in omega arith

pub loop-j-smaller : goal.loop-j-smaller
unfolding fields_in
loop-j-smaller c =
    let t = c.loop-j-test.true in omega arith

pub loop-j-preserved : goal.loop-j-preserved
unfolding fields_in
loop-j-preserved c =
    let a = c.args in
    let l = c.loop-j in
    let t = c.loop-j-test.true in
    let e = c.put_port_rule-at.ensures in
    (omega arith, turn-bytes (port_field a.rules.now) a.order.now a.out.now a.from l.j l.invariant.1 l.invariant.2 e.0, turn_end (port_field a.rules.now) a.order.now a.out.now a.from l.j l.invariant.1 l.invariant.2 e.1)

pub shape_of-out : goal.shape_of-out
unfolding fields_in
shape_of-out c =
    let a = c.args in let l = c.loop-j in turn-length (port_field a.rules.now) a.order.now a.out.now a.from l.j l.invariant.1 l.invariant.2

pub returns : goal.returns
unfolding fields_in
returns c =
    let a = c.args in
    let l = c.loop-j in
    let t = c.loop-j-test.false in
    let h = l.invariant.0 in
    let z : l.j ≡ a.k = omega arith in
    l.invariant.1 ∙ ap (λ (j : ℕ). sets a.out.now a.from (fields_in (port_field a.rules.now) a.order.now j)) z
