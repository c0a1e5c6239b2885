use mathlib.Core.Path.{◌≡◌, sym, ◌∙◌}
use mathlib.Core.Bool.{false}
use Prim.Native.Nat.{◌-◌, ◌≤◌}
use native.Mathlib.Omega.{arith}
use borrow.Author.Rules.{rules}
use lib.Dec.{ltb}
use lib.ListN.{length}
use Rattle.names.specs.Paths.{max_path, path_of}
use Rattle.policy_picks.specs.Picks.{pick_at, any_pick}
use Rattle.laws.specs.Tests.{any_below}
use Rattle.laws.proofs.Tests.{any-start, any_more, any_found, any-done}
use Rattle.sound_rules.specs.Rules.{rule_count}
use Rattle.policy_picks.proofs.any_overlong.Goals as goal

pub loop-i-init : goal.loop-i-init
unfolding any_pick
loop-i-init c =
    (omega arith, any-start _)

pub is_overlong-requires : goal.is_overlong-requires
unfolding any_pick
is_overlong-requires c =
    let t = c.loop-i-test.true in let n = c.rule_count-n.ensures in let r = c.requires in omega arith

pub returns-then-is_overlong : goal.returns-then-is_overlong
unfolding any_pick
returns-then-is_overlong c =
    let l = c.loop-i in let t = c.loop-i-test.true in let n = c.rule_count-n.ensures in any_found _ _ l.i (omega arith) (sym c.is_overlong.ensures ∙ c.if-is_overlong.true)

pub overflow_add-i : goal.overflow_add-i
unfolding any_pick
overflow_add-i c =
    let t = c.loop-i-test.true in let n = c.rule_count-n.ensures in omega arith

pub loop-i-smaller : goal.loop-i-smaller
unfolding any_pick
loop-i-smaller c =
    let t = c.loop-i-test.true in let n = c.rule_count-n.ensures in omega arith

pub loop-i-preserved : goal.loop-i-preserved
unfolding any_pick
loop-i-preserved c =
    let t = c.loop-i-test.true in let n = c.rule_count-n.ensures in (omega arith, any_more _ _ c.loop-i.invariant.1 (sym c.is_overlong.ensures ∙ c.if-is_overlong.false))

pub returns : goal.returns
unfolding any_pick
returns c =
    let l = c.loop-i in let t = c.loop-i-test.false in let n = c.rule_count-n.ensures in any-done _ _ l.i (omega arith) (omega arith) l.invariant.1
