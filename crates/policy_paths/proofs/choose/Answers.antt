use mathlib.Core.Path.{◌≡◌}
use Prim.Native.Nat.{◌-◌, ◌≤◌}
use native.Mathlib.Omega.{arith}
use Rattle.access.specs.Limits.{max_entries}
use Rattle.policy_write.specs.Chosen.{chosen_below}
use Rattle.policy_paths.proofs.Choosing.{chosen_on, chosen_none, chosen-all, chosen_live}
use Rattle.policy_paths.proofs.choose.Goals as goal

pub loop-e-init : goal.loop-e-init
loop-e-init c =
    let a = c.args in (omega arith, chosen_none a.entries.now a.names.now a.o)

pub choose_of-c-requires : goal.choose_of-c-requires
choose_of-c-requires c =
    let a = c.args in
    let l = c.loop-e in
    (c.requires, λ h. let q = l.invariant.1 in rw q (chosen_live a.entries.now a.names.now a.o l.e (rw q at h)))

pub overflow_add-e : goal.overflow_add-e
overflow_add-e c =
    let t = c.loop-e-test.true in omega arith

pub loop-e-smaller : goal.loop-e-smaller
loop-e-smaller c =
    let t = c.loop-e-test.true in omega arith

pub loop-e-preserved : goal.loop-e-preserved
loop-e-preserved c =
    let l = c.loop-e in
    let a = c.args in
    let t = c.loop-e-test.true in
    (omega arith, chosen_on a.entries.now a.names.now a.o l.e l.invariant.1 c.choose_of-c.ensures)

pub returns : goal.returns
returns c =
    let l = c.loop-e in
    let a = c.args in
    let t = c.loop-e-test.false in
    let i = l.invariant.0 in
    chosen-all a.entries.now a.names.now a.o l.e (omega arith) l.invariant.1
