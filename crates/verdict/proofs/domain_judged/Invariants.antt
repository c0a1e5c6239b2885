-- The invariant: the rest of the chain decides.
use mathlib.Core.Path.{◌≡◌, refl, sym, ◌∙◌}
use Prim.Native.Nat.{max}
use native.Mathlib.Omega.{arith}
use borrow.Author.Tests.{not-true, not-false, eqb-false}
use Rattle.access.specs.Limits.{max_domain}
use Rattle.judge.specs.Domain.{chain}
use Rattle.judge.specs.Read.{largest}
use Rattle.verdict.specs.Denial.{denied_by, crossed_by, read_by, denial}
use Rattle.verdict.proofs.Denials.{loop_end, loop_none, loop_hit, loop_up, read-end, read_none, read_more, read_all, denied_most}
use Rattle.verdict.proofs.domain_judged.Given as goal

abbrev pub invariant-loop-n : goal.invariant-loop-n
invariant-loop-n l = (denial (denied_by l.entries l.layers l.pool l.q) (crossed_by l.entries l.layers l.pool l.q) 0 0 (chain l.layers max_domain l.y)
    ≡ denial (denied_by l.entries l.layers l.pool l.q) (crossed_by l.entries l.layers l.pool l.q) l.k l.set (chain l.layers l.n l.at))
    × (largest (read_by l.entries l.layers l.pool l.q) (chain l.layers max_domain l.y) ≡ max l.read (largest (read_by l.entries l.layers l.pool l.q) (chain l.layers l.n l.at)))

abbrev pub decreases-loop-n : goal.decreases-loop-n
decreases-loop-n l = l.n
