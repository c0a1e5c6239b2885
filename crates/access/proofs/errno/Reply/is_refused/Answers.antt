use borrow.Author.Rules.{rules}
use Rattle.access.specs.Reply.{is_refused}
use Rattle.access.proofs.errno.Reply.is_refused.Goals as goal

pub returns-in-Done : goal.returns-in-Done
unfolding is_refused
returns-in-Done c =
    rw c.in-Done.is

pub returns-in-Refused : goal.returns-in-Refused
unfolding is_refused
returns-in-Refused c =
    rw c.in-Refused.is

pub returns-in-Denied : goal.returns-in-Denied
unfolding is_refused
returns-in-Denied c =
    rw c.in-Denied.is
