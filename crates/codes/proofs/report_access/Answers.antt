use borrow.Author.Rules.{rules}
use Rattle.codes.specs.Codes.{reported_access}
use Rattle.codes.proofs.report_access.Goals as goal

pub returns : goal.returns
unfolding reported_access
returns c =
    rw (c.write.ensures, c.report_denial.ensures)
