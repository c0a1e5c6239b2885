use borrow.Author.Rules.{rules}
use Rattle.domain_end.proofs.Loops.{ended_by}
use Rattle.end_apply.proofs.apply_end.Goals as goal

pub returns : goal.returns
returns c =
    ended_by _ _ c.youngest_of-y.ensures c.zero_row.ensures c.put_layer.ensures
