use mathlib.Core.Path.{◌≡◌, sym, ap, ◌∙◌}
use Prim.Native.Nat.{◌≤◌, ◌-◌}
use native.Mathlib.Omega.{arith}
use Rattle.laws.specs.Sums.{tally}
use Rattle.access.specs.Limits.{max_threads}
use Rattle.tables.specs.Tables.{thread_live}
use Rattle.laws.proofs.Sums.{sum_start, tally_yes, tally_no}
use Rattle.domain_end.proofs.live_threads.Goals as goal
use Rattle.domain_end.proofs.live_threads.Goals.{then-thread_live, else-thread_live}

pub loop-t-init : goal.loop-t-init
loop-t-init c =
    (omega arith, omega arith, sum_start _)

pub loop-t-preserved : goal.loop-t-preserved
loop-t-preserved c =
    let l = c.loop-t in
    let p = thread_live c.args.threads.now in
    let e = c.thread_live.ensures in (
      omega arith,
      elim c.if-thread_live.branch [ then-thread_live w ↦ let q = w.n-is in omega arith | else-thread_live w ↦ let q = w.n-is in omega arith ],
      elim c.if-thread_live.branch [
        | then-thread_live w ↦ w.n-is ∙ tally_yes p l.t l.n l.invariant.2 (sym e ∙ w.if-thread_live.true)
        | else-thread_live w ↦ w.n-is ∙ tally_no p l.t l.n l.invariant.2 (sym e ∙ w.if-thread_live.false)
      ],
    )

pub returns : goal.returns
returns c =
    let l = c.loop-t in
    let e : l.t ≡ max_threads = omega arith in
    l.invariant.2 ∙ ap (tally (thread_live c.args.threads.now)) e
