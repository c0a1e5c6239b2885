-- The invariant: every sort below `i` is known.
use mathlib.Core.Path.{◌≡◌, sym, ap, ◌∙◌}
use mathlib.Core.Bool.{true}
use Prim.Native.Nat.{ℕ, ◌≤◌, ◌-◌}
use native.Mathlib.Omega.{arith}
use borrow.Author.Rules.{rules}
use Rattle.laws.specs.Tests.{all_below}
use Rattle.laws.proofs.Tests.{all_none, all_more, all_done, all_fails}
use Rattle.named.specs.Batch.{asked_cell, known_sort}
use Rattle.batch_requests.proofs.sorts_known.Given as goal

abbrev pub invariant-loop-i : goal.invariant-loop-i
invariant-loop-i l = (l.i ≤ l.n) × (all_below (λ i. known_sort (asked_cell l.requests i 0)) l.i ≡ true)

abbrev pub decreases-loop-i : goal.decreases-loop-i
decreases-loop-i l = l.n - l.i
