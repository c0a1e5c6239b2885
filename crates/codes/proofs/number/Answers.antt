use borrow.Author.Rules.{rules}
use Rattle.codes.specs.Codes.{number}
use Rattle.codes.proofs.number.Goals as goal

pub returns-in-Done : goal.returns-in-Done
unfolding number
returns-in-Done c =
    rw c.in-Done.is

pub returns-in-Refused : goal.returns-in-Refused
unfolding number
returns-in-Refused c =
    rw c.in-Refused.is c.code_of.ensures

pub returns-in-Denied : goal.returns-in-Denied
unfolding number
returns-in-Denied c =
    rw c.in-Denied.is c.code_of-in-Denied.ensures
