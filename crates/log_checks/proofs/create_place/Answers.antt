use Rattle.laws.proofs.Refusals.{first-is, refusals}
use Rattle.tree_log.specs.Tree.{create_place}
use Rattle.log_checks.proofs.create_place.Goals as goal

pub returns-then-not-entry_live : goal.returns-then-not-entry_live
unfolding create_place
returns-then-not-entry_live c =
    first-is (search refusals depth 16 fits 20000)

pub returns-then-not-is_dir : goal.returns-then-not-is_dir
unfolding create_place
returns-then-not-is_dir c =
    first-is (search refusals depth 16 fits 20000)

pub returns : goal.returns
unfolding create_place
returns c =
    first-is (search refusals depth 16 fits 20000)
