use mathlib.Core.Path.{◌≡◌, sym, ap, ◌∙◌}
use Prim.Native.Nat.{ℕ, ◌+◌, ◌*◌, ◌-◌, ◌≤◌}
use native.Mathlib.Omega.{arith}
use borrow.Author.Rules.{rules}
use lib.ListN.{length, get_or}
use Rattle.policy_size.specs.Fields.{path_size, max_path_size, sum_in}
use Rattle.policy_size.proofs.Fields.{sum_none, sum_more}
use Rattle.policy_size.proofs.paths_size.Goals as goal

pub loop-j-init : goal.loop-j-init
loop-j-init c =
    let a = c.args in (omega arith, sum_none (path_size a.entries.now a.names.now a.picks.now) a.order.now, omega arith)

pub bounds-order-j : goal.bounds-order-j
bounds-order-j c =
    let t = c.loop-j-test.true in let r = c.requires.room in omega arith

pub overflow_cast-i : goal.overflow_cast-i
overflow_cast-i c =
    omega (arith, c.shared_slice_known-in-loop-j-1.given c.loop-j.j)

pub offset_bounds-picks-i : goal.offset_bounds-picks-i
offset_bounds-picks-i c =
    omega (arith, c.shared_slice_known-in-loop-j-1.given c.loop-j.j)

pub bounds-picks-i : goal.bounds-picks-i
bounds-picks-i c =
    let t = c.loop-j-test.true in c.requires.known c.loop-j.j t

pub overflow_add-n : goal.overflow_add-n
overflow_add-n c =
    let t = c.loop-j-test.true in let s = c.requires.short c.loop-j.j t in let p = c.path_length.ensures in omega arith

pub overflow_add-n-in-loop-j : goal.overflow_add-n-in-loop-j
overflow_add-n-in-loop-j c =
    let t = c.loop-j-test.true in let s = c.requires.short c.loop-j.j t in let p = c.path_length.ensures in omega arith

pub overflow_add-n-in-loop-j-2 : goal.overflow_add-n-in-loop-j-2
overflow_add-n-in-loop-j-2 c =
    let t = c.loop-j-test.true in let s = c.requires.short c.loop-j.j t in let f = c.requires.few in let p = c.path_length.ensures in let i = c.loop-j.invariant.2 in omega arith

pub overflow_add-j : goal.overflow_add-j
overflow_add-j c =
    let t = c.loop-j-test.true in omega arith

pub loop-j-smaller : goal.loop-j-smaller
loop-j-smaller c =
    let t = c.loop-j-test.true in omega arith

pub loop-j-preserved : goal.loop-j-preserved
loop-j-preserved c =
    let l = c.loop-j in
    let a = c.args in
    let t = c.loop-j-test.true in
    let s = c.requires.short l.j t in
    let p = c.path_length.ensures in
    let e = sum_more (path_size a.entries.now a.names.now a.picks.now) a.order.now l.j in
    let i = l.invariant.1 in
    let u = l.invariant.2 in
    (omega arith, omega arith, omega arith)

pub returns : goal.returns
returns c =
    let l = c.loop-j in
    let a = c.args in
    let t = c.loop-j-test.false in
    let h = l.invariant.0 in
    let z : l.j ≡ a.k = omega arith in
    let u = l.invariant.2 in
    (l.invariant.1 ∙ ap (sum_in (path_size a.entries.now a.names.now a.picks.now) a.order.now) z, omega arith)
