use mathlib.Core.Path.{sym, ◌∙◌}
use Rattle.laws.proofs.Refusals.{first-is, none, miss, hit_by, hit_not, miss_not}
use Rattle.tree.specs.Create.{create_shape}
use Rattle.tree_create.proofs.create.create_shape.Goals as goal

pub returns-then-not-thread_live : goal.returns-then-not-thread_live
unfolding create_shape
returns-then-not-thread_live c =
    first-is (search (hit_not, miss_not) depth 16 fits 20000)

pub returns-then-not-entry_live : goal.returns-then-not-entry_live
unfolding create_shape
returns-then-not-entry_live c =
    first-is (search (hit_not, miss_not) depth 16 fits 20000)

pub returns-then-not-is_dir : goal.returns-then-not-is_dir
unfolding create_shape
returns-then-not-is_dir c =
    first-is (search (hit_not, miss_not) depth 16 fits 20000)

pub returns-then-unknown_kind : goal.returns-then-unknown_kind
unfolding create_shape
returns-then-unknown_kind c =
    first-is (search (hit_by, miss_not) depth 16 fits 20000)

pub returns : goal.returns
unfolding create_shape
returns c =
    first-is (search (none, miss, miss_not, sym c.unknown_kind.ensures ∙ c.if-unknown_kind.false) depth 16 fits 20000)
