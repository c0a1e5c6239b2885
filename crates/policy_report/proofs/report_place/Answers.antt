use borrow.Author.Rules.{rules}
use Rattle.named.specs.Policy.{placed}
use Rattle.policy_report.proofs.report_place.Goals as goal

pub returns : goal.returns
unfolding placed
returns c =
    rw (c.write-3.ensures, c.write-2.ensures, c.write.ensures)
