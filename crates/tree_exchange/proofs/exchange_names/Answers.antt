use Rattle.laws.proofs.Refusals.{first-is, none, hit_not, miss_not}
use Rattle.tree.specs.Exchange.{exchange_names}
use Rattle.tree_exchange.proofs.exchange_names.Goals as goal

pub returns-then-not-thread_live : goal.returns-then-not-thread_live
unfolding exchange_names
returns-then-not-thread_live c =
    first-is (search (hit_not, miss_not) depth 16 fits 20000)

pub returns-then-not-entry_live : goal.returns-then-not-entry_live
unfolding exchange_names
returns-then-not-entry_live c =
    first-is (search (hit_not, miss_not) depth 16 fits 20000)

pub returns-then-not-entry_live-2 : goal.returns-then-not-entry_live-2
unfolding exchange_names
returns-then-not-entry_live-2 c =
    first-is (search (hit_not, miss_not) depth 16 fits 20000)

pub returns-then-not-entry_live-3 : goal.returns-then-not-entry_live-3
unfolding exchange_names
returns-then-not-entry_live-3 c =
    first-is (search (hit_not, miss_not) depth 16 fits 20000)

pub returns : goal.returns
unfolding exchange_names
returns c =
    first-is (search (none, miss_not) depth 16 fits 20000)
