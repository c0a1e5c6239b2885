use mathlib.Core.Path.{◌≡◌, sym, ap, ◌∙◌}
use Prim.Native.Nat.{ℕ, ◌-◌, ◌≤◌}
use native.Mathlib.Omega.{arith}
use lib.ListN.{length, set, length-set}
use lib.Seq.{length-sets}
use Rattle.names.specs.Paths.{path_up}
use Rattle.policy_paths.proofs.Lengths.{up_root, up_out, Put, put_none, put_name_lem, put_length, put_on, put_all}
use Rattle.policy_paths.proofs.put_up.Goals as goal

pub loop-left-init : goal.loop-left-init
loop-left-init c =
    let a = c.args in put_none a.entries.now a.names.now a.out.now a.end a.e

pub shape_of-out-then-x-eq0 : goal.shape_of-out-then-x-eq0
shape_of-out-then-x-eq0 c =
    let a = c.args in put_length a.entries.now a.names.now a.out.now a.end a.e c.loop-left.invariant c.requires.0

pub returns-then-x-eq0 : goal.returns-then-x-eq0
returns-then-x-eq0 c =
    let a = c.args in
    let l = c.loop-left in
    put_all a.entries.now a.names.now a.out.now a.end a.e l.invariant c.requires.0 (up_root a.entries.now a.names.now l.left l.x c.if-x-eq0.true)

pub overflow_sub-at : goal.overflow_sub-at
overflow_sub-at c =
    let a = c.args in
    let l = c.loop-left in
    let w = put_name_lem a.entries.now a.names.now a.out.now a.end a.e l.invariant c.requires.0 c.loop-left-test.true c.if-x-eq0.false c.name_of-name.ensures in
    omega arith

pub put_bytes-requires : goal.put_bytes-requires
put_bytes-requires c =
    let a = c.args in
    let l = c.loop-left in
    let w = put_name_lem a.entries.now a.names.now a.out.now a.end a.e l.invariant c.requires.0 c.loop-left-test.true c.if-x-eq0.false c.name_of-name.ensures in
    let o = put_length a.entries.now a.names.now a.out.now a.end a.e l.invariant c.requires.0 in
    let e = l.invariant.ends in
    let p = c.requires.1 in
    omega arith

pub overflow_sub-at-in-loop-left : goal.overflow_sub-at-in-loop-left
overflow_sub-at-in-loop-left c =
    let a = c.args in
    let l = c.loop-left in
    let w = put_name_lem a.entries.now a.names.now a.out.now a.end a.e l.invariant c.requires.0 c.loop-left-test.true c.if-x-eq0.false c.name_of-name.ensures in
    omega arith

pub bounds-out-at : goal.bounds-out-at
bounds-out-at c =
    let a = c.args in
    let l = c.loop-left in
    let w = put_name_lem a.entries.now a.names.now a.out.now a.end a.e l.invariant c.requires.0 c.loop-left-test.true c.if-x-eq0.false c.name_of-name.ensures in
    let o = put_length a.entries.now a.names.now a.out.now a.end a.e l.invariant c.requires.0 in
    let q = ap length c.put_bytes.ensures ∙ length-sets l.out (l.at - length c.name_of-name.result.now) c.name_of-name.result.now in
    let e = l.invariant.ends in
    let p = c.requires.1 in
    omega arith

pub loop-left-preserved : goal.loop-left-preserved
loop-left-preserved c =
    let a = c.args in
    let l = c.loop-left in
    put_on a.entries.now a.names.now a.out.now a.end a.e l.invariant c.requires.0 c.loop-left-test.true c.if-x-eq0.false c.name_of-name.ensures c.put_bytes.ensures c.parent_of-x.ensures

pub shape_of-out : goal.shape_of-out
shape_of-out c =
    let a = c.args in put_length a.entries.now a.names.now a.out.now a.end a.e c.loop-left.invariant c.requires.0

pub returns : goal.returns
returns c =
    let a = c.args in
    let l = c.loop-left in
    let t = c.loop-left-test.false in
    let z : l.left ≡ 0 = omega arith in
    put_all a.entries.now a.names.now a.out.now a.end a.e l.invariant c.requires.0
    (ap (λ (k : ℕ). path_up a.entries.now a.names.now k l.x) z ∙ up_out a.entries.now a.names.now l.x)
