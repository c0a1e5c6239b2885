use Rattle.laws.proofs.Refusals.{first-is, none, hit_by, miss_by, hit_not, miss_not}
use Rattle.tree.specs.Rename.{rename_names}
use Rattle.tree_rename.proofs.rename_names.Goals as goal

pub returns-then-not-thread_live : goal.returns-then-not-thread_live
unfolding rename_names
returns-then-not-thread_live c =
    first-is (search (hit_not, miss_not) depth 16 fits 20000)

pub returns-then-not-entry_live : goal.returns-then-not-entry_live
unfolding rename_names
returns-then-not-entry_live c =
    first-is (search (hit_not, miss_not) depth 16 fits 20000)

pub returns-then-not-entry_live-2 : goal.returns-then-not-entry_live-2
unfolding rename_names
returns-then-not-entry_live-2 c =
    first-is (search (hit_not, miss_not) depth 16 fits 20000)

pub returns-then-is_gone : goal.returns-then-is_gone
unfolding rename_names
returns-then-is_gone c =
    first-is (search (hit_by, miss_not) depth 16 fits 20000)

pub returns : goal.returns
unfolding rename_names
returns c =
    first-is (search (none, miss_by, miss_not) depth 16 fits 20000)
