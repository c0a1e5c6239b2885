use Rattle.named.specs.Tree.{create_before, create_named_checks}
use Rattle.named.proofs.Orders.{create_early, new_early, create_agrees}
use Rattle.named.proofs.Replies.{target_stops, name_stops, rest_decides}
use Rattle.named_tree.proofs.create_checks.Goals as goal

pub returns-then-a-ne0 : goal.returns-then-a-ne0
unfolding create_named_checks create_before
returns-then-a-ne0 c =
    target_stops _ _ _ _ _ _ (create_early _ _ _ _) (new_early _ _ _ _) c.create_target-a.ensures c.if-a-ne0.true

pub returns-then-b-ne0 : goal.returns-then-b-ne0
unfolding create_named_checks create_before
returns-then-b-ne0 c =
    name_stops _ _ _ _ _ _ (create_early _ _ _ _) (new_early _ _ _ _) c.create_target-a.ensures c.if-a-ne0.false c.new_name-b.ensures c.if-b-ne0.true

pub create_checks-requires : goal.create_checks-requires
unfolding create_named_checks create_before
create_checks-requires c =
    c.requires

pub returns : goal.returns
unfolding create_named_checks create_before
returns c =
    rest_decides _ _ _ _ _ _ (create_early _ _ _ _) (new_early _ _ _ _) c.create_target-a.ensures c.if-a-ne0.false c.new_name-b.ensures _ (create_agrees _ _ _ _ _) c.if-b-ne0.false c.create_checks.ensures
