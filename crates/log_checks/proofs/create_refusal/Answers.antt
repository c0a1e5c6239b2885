use Rattle.laws.proofs.Refusals.{join_stop, join_go}
use Rattle.tree_log.specs.Tree.{tree_checks}
use Rattle.log_checks.specs.Checks.{create_room}
use Rattle.named.proofs.Orders.{new_early}
use Rattle.log_checks.proofs.Places.{create_refuses}
use Rattle.log_checks.proofs.create_refusal.Goals as goal

pub returns-then-a-ne0 : goal.returns-then-a-ne0
unfolding tree_checks create_room
returns-then-a-ne0 c =
    join_stop _ _ c.create_place-a.ensures c.if-a-ne0.true

pub returns-then-b-ne0 : goal.returns-then-b-ne0
unfolding tree_checks create_room
returns-then-b-ne0 c =
    join_go _ _ (create_refuses _ _) c.create_place-a.ensures c.if-a-ne0.false (join_stop _ _ c.new_name-b.ensures c.if-b-ne0.true)

pub returns : goal.returns
unfolding tree_checks create_room
returns c =
    join_go _ _ (create_refuses _ _) c.create_place-a.ensures c.if-a-ne0.false (join_go _ _ (new_early _ _ _ _).1 c.new_name-b.ensures c.if-b-ne0.false c.create_room.ensures)
