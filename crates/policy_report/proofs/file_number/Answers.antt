use borrow.Author.Rules.{rules}
use Rattle.named.specs.Policy.{file_number}
use Rattle.policy_report.proofs.file_number.Goals as goal

pub returns-in-Stock : goal.returns-in-Stock
unfolding file_number
returns-in-Stock c =
    rw c.in-Stock.is

pub returns-in-Site : goal.returns-in-Site
unfolding file_number
returns-in-Site c =
    rw c.in-Site.is
