use Rattle.laws.proofs.Refusals.{join_stop, join_go, first-is, refusals}
use Rattle.names.specs.Names.{name_checks}
use Rattle.named.specs.Tree.{new_name}
use Rattle.named.proofs.Orders.{name_early}
use Rattle.named_checks.proofs.new_name.Goals as goal

pub returns-then-e-ne0 : goal.returns-then-e-ne0
unfolding new_name
returns-then-e-ne0 c =
    join_stop _ _ c.name_checks-e.ensures c.if-e-ne0.true

pub returns-then-is_taken : goal.returns-then-is_taken
unfolding new_name
returns-then-is_taken c =
    join_go _ _ (name_early _).1 c.name_checks-e.ensures c.if-e-ne0.false (first-is (search refusals depth 16 fits 20000))

pub returns : goal.returns
unfolding new_name
returns c =
    join_go _ _ (name_early _).1 c.name_checks-e.ensures c.if-e-ne0.false (first-is (search refusals depth 16 fits 20000))
