use Rattle.named.specs.Tree.{rename_before, rename_named_checks}
use Rattle.named.proofs.Orders.{link_early, name_early}
use Rattle.named.proofs.Replies.{target_stops, name_stops, rest_decides}
use Rattle.named_moves.proofs.Moving.{bearer_agrees}
use Rattle.named_moves.proofs.rename_checks.Goals as goal

pub returns-then-a-ne0 : goal.returns-then-a-ne0
unfolding rename_named_checks rename_before
returns-then-a-ne0 c =
    target_stops _ _ _ _ _ _ (link_early _ _ _ _ _) (name_early _) c.link_target-a.ensures c.if-a-ne0.true

pub returns-then-b-ne0 : goal.returns-then-b-ne0
unfolding rename_named_checks rename_before
returns-then-b-ne0 c =
    name_stops _ _ _ _ _ _ (link_early _ _ _ _ _) (name_early _) c.link_target-a.ensures c.if-a-ne0.false c.name_checks-b.ensures c.if-b-ne0.true

pub returns : goal.returns
unfolding rename_named_checks rename_before
returns c =
    rest_decides _ _ _ _ _ _ (link_early _ _ _ _ _) (name_early _) c.link_target-a.ensures c.if-a-ne0.false c.name_checks-b.ensures _ (bearer_agrees _ _ _ _ _ c.requires) c.if-b-ne0.false c.rename_checks.ensures
