use mathlib.Core.Path.{◌≡◌, sym, ap, ◌∙◌}
use mathlib.Core.Bool.{true}
use Prim.Native.Nat.{ℕ, ◌≤◌, ◌-◌}
use native.Mathlib.Omega.{arith}
use lib.Dec.{leb}
use borrow.Author.Rules.{rules}
use borrow.Author.Tests.{le-leb, lt-leb}
use Rattle.laws.specs.Tests.{all_below}
use Rattle.laws.proofs.Tests.{all_none, all_more, all_done, all_fails}
use Rattle.queue.specs.Queue.{slots, known_state, answered}
use Rattle.queue.proofs.states_known.Goals as goal

pub loop-i-init : goal.loop-i-init
unfolding known_state
loop-i-init c =
    (omega arith, all_none _)

pub loop-i-preserved : goal.loop-i-preserved
unfolding known_state
loop-i-preserved c =
    (omega arith, all_more _ _ c.loop-i.invariant.1 (ap (λ (v : ℕ). leb v answered) (sym c.read.ensures) ∙ le-leb _ _ c.if-read-le-ANSWERED.true))

pub returns-else-read-le-ANSWERED : goal.returns-else-read-le-ANSWERED
unfolding known_state
returns-else-read-le-ANSWERED c =
    all_fails _ _ c.loop-i.i (omega arith) (ap (λ (v : ℕ). leb v answered) (sym c.read.ensures) ∙ lt-leb _ _ c.if-read-le-ANSWERED.false)

pub returns : goal.returns
unfolding known_state
returns c =
    all_done _ _ c.loop-i.i (omega arith) (omega arith) c.loop-i.invariant.1
