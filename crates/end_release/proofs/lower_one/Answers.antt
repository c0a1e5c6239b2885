use mathlib.Core.Bool.{not}
use mathlib.Core.Path.{ap}
use borrow.Author.Rules.{rules}
use Rattle.domain_end.proofs.Loops.{one_no, one_yes}
use Rattle.end_release.proofs.lower_one.Goals as goal

pub returns-then-not-ends_before : goal.returns-then-not-ends_before
returns-then-not-ends_before c =
    one_no _ _ _ _ c.layer_first-at.ensures c.ends_before.ensures (ap not c.if-not-ends_before.true)

pub returns : goal.returns
returns c =
    one_yes _ _ _ _ c.layer_first-at.ensures c.ends_before.ensures (ap not c.if-not-ends_before.false) c.minus.ensures c.row_write.ensures
