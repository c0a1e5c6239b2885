use mathlib.Core.Path.{◌≡◌, sym, ◌∙◌}
use mathlib.Core.Bool.{false}
use Prim.Native.Nat.{◌-◌, ◌≤◌}
use native.Mathlib.Omega.{arith}
use borrow.Author.Rules.{rules}
use Rattle.policy_picks.specs.Picks.{sweeps_at}
use Rattle.laws.specs.Tests.{any_below}
use Rattle.laws.proofs.Tests.{any-start, any_more, any_found, any-done}
use Rattle.sound_rules.specs.Rules.{rule_count}
use Rattle.policy_picks.proofs.any_sweeps.Goals as goal

pub loop-i-init : goal.loop-i-init
loop-i-init c =
    (omega arith, any-start _)

pub returns-then-sweeps : goal.returns-then-sweeps
returns-then-sweeps c =
    let l = c.loop-i in let t = c.loop-i-test.true in let n = c.rule_count-n.ensures in any_found _ _ l.i (omega arith) (sym c.sweeps.ensures ∙ c.if-sweeps.true)

pub overflow_add-i : goal.overflow_add-i
overflow_add-i c =
    let t = c.loop-i-test.true in let n = c.rule_count-n.ensures in omega arith

pub loop-i-smaller : goal.loop-i-smaller
loop-i-smaller c =
    let t = c.loop-i-test.true in let n = c.rule_count-n.ensures in omega arith

pub loop-i-preserved : goal.loop-i-preserved
loop-i-preserved c =
    let t = c.loop-i-test.true in let n = c.rule_count-n.ensures in (omega arith, any_more _ _ c.loop-i.invariant.1 (sym c.sweeps.ensures ∙ c.if-sweeps.false))

pub returns : goal.returns
returns c =
    let l = c.loop-i in let t = c.loop-i-test.false in let n = c.rule_count-n.ensures in any-done _ _ l.i (omega arith) (omega arith) l.invariant.1
