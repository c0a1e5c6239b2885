use borrow.Author.Rules.{rules}
use Rattle.fs.proofs.needs.needs.Goals as goal

pub returns : goal.returns
returns c =
    let p = c.requires in
    rw (c.wide-packed.ensures, c.needs_row-row.ensures.0) (p.0.source _ _ _ _ p.1, p.0.target _ _ _ _ p.1)
