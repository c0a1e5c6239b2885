use mathlib.Core.Path.{◌≡◌, refl, sym, ◌∙◌}
use native.Mathlib.Omega.{arith}
use Rattle.laws.specs.Tests.{any}
use Rattle.access.specs.Limits.{max_domain}
use Rattle.judge.specs.Domain.{chain}
use Rattle.task.specs.Task.{escapes}
use Rattle.task.proofs.Walks.{walk_end, walk_none, walk_hit, walk_up}
use Rattle.task.proofs.any_leaves.Goals as goal

pub returns-then-at-eq0 : goal.returns-then-at-eq0
returns-then-at-eq0 c =
    let l = c.loop-left in walk_end _ _ l.left l.at l.invariant c.if-at-eq0.true

pub returns-then-leaves : goal.returns-then-leaves
returns-then-leaves c =
    let l = c.loop-left in
    walk_hit _ _ l.left l.at l.invariant c.if-at-eq0.false (omega arith) (sym c.leaves.ensures ∙ c.if-leaves.true)

pub loop-left-preserved : goal.loop-left-preserved
loop-left-preserved c =
    let l = c.loop-left in
    walk_up _ _ l.left l.at l.invariant c.if-at-eq0.false (omega arith) (sym c.leaves.ensures ∙ c.if-leaves.false) c.layer_parent-at.ensures

pub returns : goal.returns
returns c =
    let l = c.loop-left in walk_none _ _ l.left l.at l.invariant (omega arith)
