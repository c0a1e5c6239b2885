-- The invariant: every thread below `t` is live.
use Prim.Native.Nat.{◌≤◌, ◌-◌}
use mathlib.Core.Path.{◌≡◌, sym, ap, ◌∙◌}
use mathlib.Core.Bool.{false, not}
use native.Mathlib.Omega.{arith}
use Rattle.laws.specs.Tests.{any_below}
use Rattle.laws.proofs.Tests.{any-start, any_more, first_found, first-none}
use Rattle.access.specs.Limits.{max_threads}
use Rattle.tables.specs.Tables.{thread_live}
use Rattle.domain.specs.Threads.{free_thread}
use Rattle.domain.proofs.threads.free_thread.Given as goal

abbrev pub invariant-loop-t : goal.invariant-loop-t
invariant-loop-t l = (l.t ≤ max_threads) × (any_below (λ u. not (thread_live l.threads u)) l.t ≡ false)

abbrev pub decreases-loop-t : goal.decreases-loop-t
decreases-loop-t l = max_threads - l.t
