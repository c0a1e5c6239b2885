use Rattle.laws.proofs.Refusals.{first-is, none, hit_by, miss_by, hit_not, miss_not, hit_eq, miss_ne}
use Rattle.tree.specs.Rename.{rename_shape}
use Rattle.tree_rename.proofs.rename_shape.Goals as goal

pub returns-then-s-eq0 : goal.returns-then-s-eq0
unfolding rename_shape
returns-then-s-eq0 c =
    first-is (search (hit_eq, miss_ne) depth 16 fits 20000)

pub returns-then-is_root : goal.returns-then-is_root
unfolding rename_shape
returns-then-is_root c =
    first-is (search (hit_by, miss_ne) depth 16 fits 20000)

pub returns-then-not-is_dir : goal.returns-then-not-is_dir
unfolding rename_shape
returns-then-not-is_dir c =
    first-is (search (hit_not, miss_ne, miss_by) depth 16 fits 20000)

pub returns-then-is_elsewhere : goal.returns-then-is_elsewhere
unfolding rename_shape
returns-then-is_elsewhere c =
    first-is (search (hit_by, miss_ne, miss_by, miss_not) depth 16 fits 20000)

pub returns-then-is_above : goal.returns-then-is_above
unfolding rename_shape
returns-then-is_above c =
    first-is (search (hit_by, miss_ne, miss_by, miss_not) depth 16 fits 20000)

pub returns : goal.returns
unfolding rename_shape
returns c =
    first-is (search (none, miss_ne, miss_by, miss_not) depth 16 fits 20000)
