use Rattle.laws.proofs.Refusals.{first-is, none, hit_by, miss_by}
use Rattle.tree.specs.Rename.{rename_later}
use Rattle.tree_rename.proofs.rename_later.Goals as goal

pub returns-then-is_same : goal.returns-then-is_same
unfolding rename_later
returns-then-is_same c =
    first-is (search (hit_by, miss_by) depth 16 fits 20000)

pub returns-then-is_dir_over_other : goal.returns-then-is_dir_over_other
unfolding rename_later
returns-then-is_dir_over_other c =
    first-is (search (hit_by, miss_by) depth 16 fits 20000)

pub returns-then-is_other_over_dir : goal.returns-then-is_other_over_dir
unfolding rename_later
returns-then-is_other_over_dir c =
    first-is (search (hit_by, miss_by) depth 16 fits 20000)

pub returns-then-is_over_full : goal.returns-then-is_over_full
unfolding rename_later
returns-then-is_over_full c =
    first-is (search (hit_by, miss_by) depth 16 fits 20000)

pub returns : goal.returns
unfolding rename_later
returns c =
    first-is (search (none, miss_by) depth 16 fits 20000)
