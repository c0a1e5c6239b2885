-- The invariant: the rest of the chain decides.
use mathlib.Core.Path.{◌≡◌, sym}
use native.Mathlib.Omega.{arith}
use lib.Dec.{eqb}
use borrow.Author.Tests.{eq-eqb, ne_eqb}
use Rattle.laws.specs.Tests.{any, elem}
use Rattle.access.specs.Limits.{max_domain}
use Rattle.judge.specs.Domain.{chain}
use Rattle.task.proofs.Walks.{elem-any, walk_end, walk_none, walk_hit, walk_up}
use Rattle.task.proofs.in_domain.Given as goal

abbrev pub invariant-loop-n : goal.invariant-loop-n
invariant-loop-n l = elem l.l (chain l.layers max_domain l.y) ≡ any (λ k. eqb l.l k) (chain l.layers l.n l.at)

abbrev pub decreases-loop-n : goal.decreases-loop-n
decreases-loop-n l = l.n
