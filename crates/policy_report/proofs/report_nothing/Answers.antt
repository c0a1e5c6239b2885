use borrow.Author.Rules.{rules}
use Rattle.policy_report.proofs.report_nothing.Goals as goal

pub returns : goal.returns
returns c =
    c.report_place.ensures
