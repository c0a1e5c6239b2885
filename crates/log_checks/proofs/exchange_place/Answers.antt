use Rattle.laws.proofs.Refusals.{first-is, refusals}
use Rattle.tree_log.specs.Tree.{exchange_place}
use Rattle.log_checks.proofs.exchange_place.Goals as goal

pub returns-then-not-entry_live : goal.returns-then-not-entry_live
unfolding exchange_place
returns-then-not-entry_live c =
    first-is (search refusals depth 16 fits 20000)

pub returns-then-not-entry_live-2 : goal.returns-then-not-entry_live-2
unfolding exchange_place
returns-then-not-entry_live-2 c =
    first-is (search refusals depth 16 fits 20000)

pub returns-then-not-entry_live-3 : goal.returns-then-not-entry_live-3
unfolding exchange_place
returns-then-not-entry_live-3 c =
    first-is (search refusals depth 16 fits 20000)

pub returns : goal.returns
unfolding exchange_place
returns c =
    first-is (search refusals depth 16 fits 20000)
