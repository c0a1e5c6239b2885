use Rattle.laws.proofs.Refusals.{first-is, refusals}
use Rattle.named.specs.Tree.{create_target}
use Rattle.named_checks.proofs.create_target.Goals as goal

pub returns-then-not-thread_live : goal.returns-then-not-thread_live
unfolding create_target
returns-then-not-thread_live c =
    first-is (search refusals depth 16 fits 20000)

pub returns-then-not-entry_live : goal.returns-then-not-entry_live
unfolding create_target
returns-then-not-entry_live c =
    first-is (search refusals depth 16 fits 20000)

pub returns-then-not-is_dir : goal.returns-then-not-is_dir
unfolding create_target
returns-then-not-is_dir c =
    first-is (search refusals depth 16 fits 20000)

pub returns : goal.returns
unfolding create_target
returns c =
    first-is (search refusals depth 16 fits 20000)
