-- The invariant: the rest of the chain decides.
use mathlib.Core.Path.{◌≡◌, refl, sym, ◌∙◌}
use native.Mathlib.Omega.{arith}
use Rattle.laws.specs.Tests.{any}
use Rattle.access.specs.Limits.{max_domain}
use Rattle.judge.specs.Domain.{chain}
use Rattle.task.specs.Task.{escapes}
use Rattle.task.proofs.Walks.{walk_end, walk_none, walk_hit, walk_up}
use Rattle.task.proofs.any_leaves.Given as goal

abbrev pub invariant-loop-left : goal.invariant-loop-left
invariant-loop-left l = any (escapes l.layers l.scope.0 (chain l.layers max_domain l.z)) (chain l.layers max_domain l.y) ≡ any (escapes l.layers l.scope.0 (chain l.layers max_domain l.z)) (chain l.layers l.left l.at)

abbrev pub decreases-loop-left : goal.decreases-loop-left
decreases-loop-left l = l.left
