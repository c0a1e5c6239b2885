use Rattle.laws.proofs.Refusals.{first-is, refusals}
use Rattle.tree_log.specs.Tree.{remove_place, tree_checks}
use Rattle.log_checks.proofs.remove_refusal.Goals as goal

pub returns-then-not-entry_live : goal.returns-then-not-entry_live
unfolding tree_checks remove_place
returns-then-not-entry_live c =
    first-is (search refusals depth 16 fits 20000)

pub returns-then-e-eq0 : goal.returns-then-e-eq0
unfolding tree_checks remove_place
returns-then-e-eq0 c =
    first-is (search refusals depth 16 fits 20000)

pub returns-then-is_full : goal.returns-then-is_full
unfolding tree_checks remove_place
returns-then-is_full c =
    first-is (search refusals depth 16 fits 20000)

pub returns : goal.returns
unfolding tree_checks remove_place
returns c =
    first-is (search refusals depth 16 fits 20000)
