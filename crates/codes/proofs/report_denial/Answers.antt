use borrow.Author.Rules.{rules}
use Rattle.codes.specs.Codes.{reported}
use Rattle.codes.proofs.report_denial.Goals as goal

pub returns : goal.returns
unfolding reported
returns c =
    rw (c.report.ensures, c.denied_rights.ensures, c.named_layer.ensures)
