use borrow.Author.Rules.{rules}
use Rattle.domain.proofs.Changes.{more_none, more_one}
use Rattle.domain.proofs.threads.hold_layer.Goals as goal

pub returns-then-y-eq0 : goal.returns-then-y-eq0
returns-then-y-eq0 c =
    more_none _ _ c.if-y-eq0.true

pub returns : goal.returns
returns c =
    more_one _ _ c.if-y-eq0.false c.layer_holders-held.ensures c.row_write.ensures
