use borrow.Author.Rules.{rules}
use Rattle.verdict.specs.Denial.{refusal_of}
use Rattle.verdict.proofs.Denial.refusal.Goals as goal

pub returns-in-None : goal.returns-in-None
unfolding refusal_of
returns-in-None c =
    rw c.in-None.is

pub returns-in-Denied : goal.returns-in-Denied
unfolding refusal_of
returns-in-Denied c =
    rw c.in-Denied.is

pub returns-in-Crossed : goal.returns-in-Crossed
unfolding refusal_of
returns-in-Crossed c =
    rw c.in-Crossed.is
