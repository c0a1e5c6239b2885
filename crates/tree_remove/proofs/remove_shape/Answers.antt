use Rattle.laws.proofs.Refusals.{first-is, refusals}
use Rattle.tree.specs.Create.{remove_shape}
use Rattle.tree_remove.proofs.remove_shape.Goals as goal

pub returns-then-not-thread_live : goal.returns-then-not-thread_live
unfolding remove_shape
returns-then-not-thread_live c =
    first-is (search refusals depth 16 fits 20000)

pub returns-then-not-entry_live : goal.returns-then-not-entry_live
unfolding remove_shape
returns-then-not-entry_live c =
    first-is (search refusals depth 16 fits 20000)

pub returns-then-e-eq0 : goal.returns-then-e-eq0
unfolding remove_shape
returns-then-e-eq0 c =
    first-is (search refusals depth 16 fits 20000)

pub returns : goal.returns
unfolding remove_shape
returns c =
    first-is (search refusals depth 16 fits 20000)
