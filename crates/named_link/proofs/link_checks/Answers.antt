use Rattle.named.specs.Tree.{link_before, link_named_checks}
use Rattle.named.proofs.Orders.{link_early, new_early, link_agrees}
use Rattle.named.proofs.Replies.{target_stops, name_stops, rest_decides}
use Rattle.named_link.proofs.link_checks.Goals as goal

pub returns-then-a-ne0 : goal.returns-then-a-ne0
unfolding link_named_checks link_before
returns-then-a-ne0 c =
    target_stops _ _ _ _ _ _ (link_early _ _ _ _ _) (new_early _ _ _ _) c.link_target-a.ensures c.if-a-ne0.true

pub returns-then-b-ne0 : goal.returns-then-b-ne0
unfolding link_named_checks link_before
returns-then-b-ne0 c =
    name_stops _ _ _ _ _ _ (link_early _ _ _ _ _) (new_early _ _ _ _) c.link_target-a.ensures c.if-a-ne0.false c.new_name-b.ensures c.if-b-ne0.true

pub link_checks-requires : goal.link_checks-requires
unfolding link_named_checks link_before
link_checks-requires c =
    c.requires

pub returns : goal.returns
unfolding link_named_checks link_before
returns c =
    rest_decides _ _ _ _ _ _ (link_early _ _ _ _ _) (new_early _ _ _ _) c.link_target-a.ensures c.if-a-ne0.false c.new_name-b.ensures _ (link_agrees _ _ _ _ _) c.if-b-ne0.false c.link_checks.ensures
