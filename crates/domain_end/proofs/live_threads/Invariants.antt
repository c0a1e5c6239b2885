-- The invariant: `n` of the threads below `t` are live.
use mathlib.Core.Path.{◌≡◌, sym, ap, ◌∙◌}
use mathlib.Core.Logic.{⊎_elim}
use Prim.Native.Nat.{◌≤◌, ◌-◌}
use native.Mathlib.Omega.{arith}
use Rattle.laws.specs.Sums.{tally}
use Rattle.access.specs.Limits.{max_threads}
use Rattle.tables.specs.Tables.{thread_live}
use Rattle.laws.proofs.Sums.{sum_start, tally_yes, tally_no}
use Rattle.domain_end.proofs.live_threads.Given as goal

abbrev pub invariant-loop-t : goal.invariant-loop-t
invariant-loop-t l = (l.t ≤ max_threads) × (l.n ≤ l.t) × (l.n ≡ tally (thread_live l.threads) l.t)

abbrev pub decreases-loop-t : goal.decreases-loop-t
decreases-loop-t l = max_threads - l.t
