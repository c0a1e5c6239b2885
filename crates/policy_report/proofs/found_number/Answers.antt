use borrow.Author.Rules.{rules}
use Rattle.named.specs.Policy.{found_number}
use Rattle.policy_report.proofs.found_number.Goals as goal

pub returns-in-At : goal.returns-in-At
unfolding found_number
returns-in-At c =
    rw c.in-At.is

pub returns-in-TooBig : goal.returns-in-TooBig
unfolding found_number
returns-in-TooBig c =
    rw c.in-TooBig.is

pub returns-in-Damaged : goal.returns-in-Damaged
unfolding found_number
returns-in-Damaged c =
    rw c.in-Damaged.is

pub returns-in-Missing : goal.returns-in-Missing
unfolding found_number
returns-in-Missing c =
    rw c.in-Missing.is
