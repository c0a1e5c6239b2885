use borrow.Author.Rules.{rules}
use Rattle.codes.proofs.report.Goals as goal

pub returns : goal.returns
returns c =
    rw (c.write-2.ensures, c.write.ensures)
