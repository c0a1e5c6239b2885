use borrow.Author.Rules.{rules}
use Rattle.named.specs.Policy.{found_place}
use Rattle.policy_report.proofs.report_found.Goals as goal

pub returns-in-At : goal.returns-in-At
unfolding found_place
returns-in-At c =
    rw (c.report_place.ensures, c.in-At.is, c.size_of.ensures, c.file_number.ensures)

pub returns-in-TooBig : goal.returns-in-TooBig
unfolding found_place
returns-in-TooBig c =
    rw (c.report_place-in-TooBig.ensures, c.in-TooBig.is, c.file_number-in-TooBig.ensures)

pub returns-in-Damaged : goal.returns-in-Damaged
unfolding found_place
returns-in-Damaged c =
    rw (c.report_place-in-Damaged.ensures, c.in-Damaged.is, c.file_number-in-Damaged.ensures)

pub returns-in-Missing : goal.returns-in-Missing
unfolding found_place
returns-in-Missing c =
    rw (c.report_nothing.ensures, c.in-Missing.is)
