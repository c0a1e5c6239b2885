use mathlib.Core.Path.{◌≡◌, refl, sym, ap, ◌∙◌}
use Prim.Native.Nat.{ℕ, ◌-◌, ◌≤◌, ◌<◌}
use native.Mathlib.Omega.{arith}
use lib.ListN.{length, get_or, length-set}
use borrow.Author.Rules.{rules}
use Rattle.sound_rules.specs.Rules.{rule_count}
use Rattle.policy_picks.specs.Picks.{pick_of}
use Rattle.policy_picks.proofs.Picking.{filled_more}
use Rattle.policy_picks.proofs.pick_all.Goals as goal

pub loop-i-init : goal.loop-i-init
loop-i-init c =
    (omega arith, refl, λ j h. absurd (omega arith))

pub pick-requires : goal.pick-requires
pick-requires c =
    c.requires.0

pub offset_bounds-picks-i : goal.offset_bounds-picks-i
offset_bounds-picks-i c =
    let t = c.loop-i-test.true in let n = c.rule_count-n.ensures in let r = c.requires.1 in let l = c.loop-i.invariant.1 in omega arith

pub bounds-picks-i : goal.bounds-picks-i
bounds-picks-i c =
    let t = c.loop-i-test.true in let n = c.rule_count-n.ensures in let r = c.requires.1 in let l = c.loop-i.invariant.1 in omega arith

pub overflow_add-i : goal.overflow_add-i
overflow_add-i c =
    let t = c.loop-i-test.true in let n = c.rule_count-n.ensures in omega arith

pub loop-i-smaller : goal.loop-i-smaller
loop-i-smaller c =
    let t = c.loop-i-test.true in let n = c.rule_count-n.ensures in omega arith

pub loop-i-preserved : goal.loop-i-preserved
loop-i-preserved c =
    let a = c.args in
    let l = c.loop-i in
    let t = c.loop-i-test.true in
    let n = c.rule_count-n.ensures in
    let r = c.requires.1 in
    let e = l.invariant.1 in
    (omega arith, simp length-set l.invariant.1, filled_more (pick_of a.entries.now a.names.now a.rules.now) l.picks l.i c.pick.result (omega arith) l.invariant.2 c.pick.ensures)

pub shape_of-picks : goal.shape_of-picks
shape_of-picks c =
    c.loop-i.invariant.1

pub returns : goal.returns
returns c =
    let l = c.loop-i in
    let t = c.loop-i-test.false in
    let n = c.rule_count-n.ensures in
    let r = c.requires.1 in
    let e = l.invariant.1 in
    record { room = omega arith; picked = λ i h. l.invariant.2 i (omega arith) }
