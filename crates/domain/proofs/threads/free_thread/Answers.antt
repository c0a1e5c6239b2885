use Prim.Native.Nat.{◌≤◌, ◌-◌}
use mathlib.Core.Path.{◌≡◌, sym, ap, ◌∙◌}
use mathlib.Core.Bool.{false, not}
use native.Mathlib.Omega.{arith}
use Rattle.laws.specs.Tests.{any_below}
use Rattle.laws.proofs.Tests.{any-start, any_more, first_found, first-none}
use Rattle.access.specs.Limits.{max_threads}
use Rattle.tables.specs.Tables.{thread_live}
use Rattle.domain.specs.Threads.{free_thread}
use Rattle.domain.proofs.threads.free_thread.Goals as goal

pub loop-t-init : goal.loop-t-init
unfolding free_thread
loop-t-init c =
    (omega arith, any-start _)

pub returns-then-not-thread_live : goal.returns-then-not-thread_live
unfolding free_thread
returns-then-not-thread_live c =
    let l = c.loop-t in first_found _ _ l.t (omega arith) l.invariant.1 (ap not (sym c.thread_live.ensures ∙ c.if-not-thread_live.true))

pub loop-t-preserved : goal.loop-t-preserved
unfolding free_thread
loop-t-preserved c =
    (omega arith, any_more _ _ c.loop-t.invariant.1 (ap not (sym c.thread_live.ensures ∙ c.if-not-thread_live.false)))

pub returns : goal.returns
unfolding free_thread
returns c =
    let l = c.loop-t in first-none _ _ l.t (omega arith) (omega arith) l.invariant.1
