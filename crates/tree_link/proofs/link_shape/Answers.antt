use mathlib.Core.Path.{sym, ◌∙◌}
use Rattle.laws.proofs.Refusals.{first-is, none, miss, hit_by, hit_not, miss_not, hit_eq, miss_ne}
use Rattle.tree.specs.Link.{link_shape}
use Rattle.tree_link.proofs.link_shape.Goals as goal

pub returns-then-not-thread_live : goal.returns-then-not-thread_live
unfolding link_shape
returns-then-not-thread_live c =
    first-is (search (hit_not, miss_not) depth 16 fits 20000)

pub returns-then-not-entry_live : goal.returns-then-not-entry_live
unfolding link_shape
returns-then-not-entry_live c =
    first-is (search (hit_not, miss_not) depth 16 fits 20000)

pub returns-then-not-entry_live-2 : goal.returns-then-not-entry_live-2
unfolding link_shape
returns-then-not-entry_live-2 c =
    first-is (search (hit_not, miss_not) depth 16 fits 20000)

pub returns-then-s-eq0 : goal.returns-then-s-eq0
unfolding link_shape
returns-then-s-eq0 c =
    first-is (search (miss_not, hit_eq) depth 16 fits 20000)

pub returns-then-not-is_dir : goal.returns-then-not-is_dir
unfolding link_shape
returns-then-not-is_dir c =
    first-is (search (hit_not, miss_not, miss_ne) depth 16 fits 20000)

pub returns-then-is_dir : goal.returns-then-is_dir
unfolding link_shape
returns-then-is_dir c =
    first-is (search (hit_by, miss_not, miss_ne) depth 16 fits 20000)

pub returns : goal.returns
unfolding link_shape
returns c =
    first-is (search (none, miss, miss_not, miss_ne, sym c.is_dir-2.ensures ∙ c.if-is_dir.false) depth 16 fits 20000)
