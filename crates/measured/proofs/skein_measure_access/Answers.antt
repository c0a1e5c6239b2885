use Rattle.verdict.proofs.Answers.{entry-is}
use Rattle.measured.proofs.skein_measure_access.Goals as goal

pub returns : goal.returns
returns c =
    entry-is _ _ _ _ _ _ _ c.thread_judged-denial.ensures.denial c.refusal.ensures
