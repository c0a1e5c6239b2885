use mathlib.Core.Path.{◌≡◌, sym, ap, ◌∙◌}
use Prim.Native.Nat.{ℕ, suc, ◌+◌, ◌*◌, ◌-◌, ◌≤◌}
use native.Mathlib.Omega.{arith}
use lib.ListN.{length}
use Rattle.access.specs.Limits.{max_entries}
use Rattle.names.specs.Names.{name_width}
use Rattle.names.specs.Paths.{path_up}
use Rattle.name_rows.proofs.Bytes.{name_short}
use Rattle.policy_paths.proofs.Lengths.{up_root, up_out, up_length}
use Rattle.policy_paths.proofs.length_up.Goals as goal

pub loop-left-init : goal.loop-left-init
loop-left-init c =
    (omega arith, omega arith, omega arith)

pub returns-then-x-eq0 : goal.returns-then-x-eq0
returns-then-x-eq0 c =
    let l = c.loop-left in
    let a = c.args in
    let i = l.invariant.2 in
    let z = ap length (up_root a.entries.now a.names.now l.left l.x c.if-x-eq0.true) in
    omega arith

pub overflow_add-n : goal.overflow_add-n
overflow_add-n c =
    let l = c.loop-left in
    let i = l.invariant.1 in
    let m = ap length c.name_of.ensures in
    let s = name_short c.args.names.now l.x in
    omega arith

pub overflow_add-n-in-loop-left : goal.overflow_add-n-in-loop-left
overflow_add-n-in-loop-left c =
    let l = c.loop-left in
    let i = l.invariant.1 in
    let m = ap length c.name_of.ensures in
    let s = name_short c.args.names.now l.x in
    omega arith

pub loop-left-preserved : goal.loop-left-preserved
loop-left-preserved c =
    let l = c.loop-left in
    let a = c.args in
    let es = a.entries.now in
    let ns = a.names.now in
    let i = l.invariant.1 in
    let j = l.invariant.2 in
    let m = ap length c.name_of.ensures in
    let s = name_short ns l.x in
    let t = c.loop-left-test.true in
    let g : l.left ≡ suc (l.left - 1) = omega arith in
    let u = up_length es ns l.left (l.left - 1) l.x g c.if-x-eq0.false in
    let v = ap (λ (p : ℕ). length (path_up es ns (l.left - 1) p)) c.parent_of-x.ensures in
    (omega arith, omega arith, omega arith)

pub returns : goal.returns
returns c =
    let l = c.loop-left in
    let a = c.args in
    let t = c.loop-left-test.false in
    let z : l.left ≡ 0 = omega arith in
    let i = l.invariant.2 in
    let o = ap (λ (k : ℕ). length (path_up a.entries.now a.names.now k l.x)) z in
    let e = ap length (up_out a.entries.now a.names.now l.x) in
    omega arith
