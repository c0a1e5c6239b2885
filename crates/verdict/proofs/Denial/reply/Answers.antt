use borrow.Author.Rules.{rules}
use Rattle.verdict.specs.Denial.{reply_of}
use Rattle.verdict.proofs.Denial.reply.Goals as goal

pub returns-in-None : goal.returns-in-None
unfolding reply_of
returns-in-None c =
    rw c.in-None.is

pub returns-in-Denied : goal.returns-in-Denied
unfolding reply_of
returns-in-Denied c =
    rw c.in-Denied.is

pub returns-in-Crossed : goal.returns-in-Crossed
unfolding reply_of
returns-in-Crossed c =
    rw c.in-Crossed.is
