use borrow.Author.Rules.{rules}
use Rattle.domain.proofs.Choices.{chosen-first, chosen-second}
use Rattle.domain_restrict.proofs.Changes.{row_by}
use Rattle.restrict_layer.proofs.put_layer.Goals as goal
use Rattle.restrict_layer.proofs.put_layer.Goals.{then-count-eq0, else-count-eq0}

pub returns : goal.returns
returns c =
    let a = c.args in
    row_by _ _ _ _ _ _ a.first a.count c.row_write.ensures c.row_write-2.ensures c.row_write-3.ensures c.row_write-4.ensures
    (elim c.if-count-eq0.branch [
      | then-count-eq0 w ↦ chosen-first a.count 0 a.first w.if-count-eq0.true w.row_write-is
      | else-count-eq0 w ↦ chosen-second a.count 0 a.first w.if-count-eq0.false w.row_write-is
    ])
    c.row_write-5.ensures c.row_write-6.ensures c.row_write-7.ensures
