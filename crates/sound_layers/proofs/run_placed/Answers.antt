use mathlib.Core.Path.{◌≡◌}
use mathlib.Core.Bool.{true, cond}
use Prim.Native.Nat.{◌+◌, ◌≤◌, ◌<◌}
use native.Mathlib.Omega.{arith}
use lib.Dec.{eqb}
use borrow.Author.Tests.{eq-eqb, ne_eqb}
use Rattle.laws.proofs.Conditions.{all-is, conditions}
use Rattle.sound_layers.specs.Layers.{run_placed}
use Rattle.sound_layers.proofs.run_placed.Goals as goal

pub returns-then-count : goal.returns-then-count
unfolding run_placed
returns-then-count c =
    all-is (search conditions depth 16)

pub returns-then-first-taken : goal.returns-then-first-taken
unfolding run_placed
returns-then-first-taken c =
    let a = c.args in
    let h : a.taken < a.first + a.count = omega arith in
    all-is (search conditions depth 16)

pub returns-then-count-taken : goal.returns-then-count-taken
unfolding run_placed
returns-then-count-taken c =
    let a = c.args in
    let h : a.taken < a.first + a.count = omega arith in
    all-is (search conditions depth 16)

pub returns-then-count-ne0 : goal.returns-then-count-ne0
unfolding run_placed
returns-then-count-ne0 c =
    let a = c.args in
    let h : a.first + a.count ≤ a.taken = omega arith in
    let e : cond (eqb a.count 0) (eqb a.first 0) true ≡ true = rw (ne_eqb _ 0 c.if-count-ne0.true) in
    all-is (search conditions depth 16)

pub returns : goal.returns
unfolding run_placed
returns c =
    let a = c.args in
    let h : a.first + a.count ≤ a.taken = omega arith in
    let e : eqb a.first 0 ≡ cond (eqb a.count 0) (eqb a.first 0) true = rw (eq-eqb _ 0 c.if-count-ne0.false) in
    all-is (search conditions depth 16)
