use Rattle.laws.proofs.Refusals.{first-is, refusals}
use Rattle.tree.specs.Create.{remove_later}
use Rattle.tree_remove.proofs.remove_later.Goals as goal

pub returns-then-is_full : goal.returns-then-is_full
unfolding remove_later
returns-then-is_full c =
    first-is (search refusals depth 16 fits 20000)

pub returns : goal.returns
unfolding remove_later
returns c =
    first-is (search refusals depth 16 fits 20000)
