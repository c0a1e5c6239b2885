use Rattle.laws.proofs.Refusals.{first-is, none, hit_by, miss_by, hit_not, miss_not, hit_eq, miss_ne, hit_ne, miss_eq}
use Rattle.tree.specs.Exchange.{exchange_shape}
use Rattle.tree_exchange.proofs.exchange_shape.Goals as goal

pub returns-then-s-eq0 : goal.returns-then-s-eq0
unfolding exchange_shape
returns-then-s-eq0 c =
    first-is (search (hit_eq, miss_ne) depth 16 fits 20000)

pub returns-then-x-eq0 : goal.returns-then-x-eq0
unfolding exchange_shape
returns-then-x-eq0 c =
    first-is (search (hit_eq, miss_ne) depth 16 fits 20000)

pub returns-then-not-is_dir : goal.returns-then-not-is_dir
unfolding exchange_shape
returns-then-not-is_dir c =
    first-is (search (hit_not, miss_ne) depth 16 fits 20000)

pub returns-then-parent_of-d : goal.returns-then-parent_of-d
unfolding exchange_shape
returns-then-parent_of-d c =
    rw (← c.parent_of.ensures) (first-is (search (hit_ne, miss_ne, miss_not) depth 16 fits 20000))

pub returns-then-is_above : goal.returns-then-is_above
unfolding exchange_shape
returns-then-is_above c =
    rw (← c.parent_of.ensures) (first-is (search (hit_by, miss_ne, miss_not, miss_eq) depth 16 fits 20000))

pub returns-then-is_above-2 : goal.returns-then-is_above-2
unfolding exchange_shape
returns-then-is_above-2 c =
    rw (← c.parent_of-2.ensures, ← c.parent_of.ensures) (first-is (search (hit_by, miss_by, miss_ne, miss_not, miss_eq) depth 16 fits 20000))

pub returns : goal.returns
unfolding exchange_shape
returns c =
    rw (← c.parent_of-2.ensures, ← c.parent_of.ensures) (first-is (search (none, miss_by, miss_ne, miss_not, miss_eq) depth 16 fits 20000))
