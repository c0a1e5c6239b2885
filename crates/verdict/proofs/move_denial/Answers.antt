use Rattle.judge.specs.Domain.{domain}
use Rattle.verdict.specs.Denial.{thread_denial}
use Rattle.verdict.proofs.Denials.{no_denial}
use Rattle.verdict.proofs.move_denial.Goals as goal

pub returns-then-y-eq0 : goal.returns-then-y-eq0
unfolding thread_denial domain
returns-then-y-eq0 c =
    rw (← c.youngest_of-y.ensures) (no_denial _ _ _ _ _ c.if-y-eq0.true)

pub returns : goal.returns
unfolding thread_denial domain
returns c =
    rw (← c.youngest_of-y.ensures) c.domain_judged.ensures.denial
