use Rattle.laws.proofs.Refusals.{join_stop, join_go}
use Rattle.tree_log.specs.Tree.{tree_checks}
use Rattle.log_checks.proofs.Places.{exchange_refuses}
use Rattle.log_checks.proofs.exchange_refusal.Goals as goal

pub returns-then-a-ne0 : goal.returns-then-a-ne0
unfolding tree_checks
returns-then-a-ne0 c =
    join_stop _ _ c.exchange_place-a.ensures c.if-a-ne0.true

pub returns : goal.returns
unfolding tree_checks
returns c =
    join_go _ _ (exchange_refuses _ _ _ _) c.exchange_place-a.ensures c.if-a-ne0.false c.exchange_shape.ensures
