use borrow.Author.Rules.{rules}
use Rattle.domain_order.proofs.Orders.{up_none, up_parent}
use Rattle.domain_order.proofs.layer_above.Goals as goal

pub returns-then-at-eq0 : goal.returns-then-at-eq0
returns-then-at-eq0 c =
    up_none _ _ c.if-at-eq0.true

pub returns : goal.returns
returns c =
    up_parent _ _ c.if-at-eq0.false c.layer_parent.ensures
