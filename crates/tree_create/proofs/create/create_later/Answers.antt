use borrow.Author.Tests.{le-leb, lt-leb}
use Rattle.laws.proofs.Refusals.{first-is, none, hit, miss, hit_ge_by, miss_lt_by}
use Rattle.tree.specs.Create.{create_later}
use Rattle.tree_create.proofs.create.create_later.Goals as goal

pub returns-then-e-ge-MAX_ENTRIES : goal.returns-then-e-ge-MAX_ENTRIES
unfolding create_later
returns-then-e-ge-MAX_ENTRIES c =
    first-is (hit_ge_by c.requires c.if-e-ge-MAX_ENTRIES.true)

pub returns-then-counter_of-ge-MAX_COUNTER : goal.returns-then-counter_of-ge-MAX_COUNTER
unfolding create_later
returns-then-counter_of-ge-MAX_COUNTER c =
    rw (← c.counter_of.ensures) (first-is (miss_lt_by c.requires c.if-e-ge-MAX_ENTRIES.false (hit (le-leb _ _ c.if-counter_of-ge-MAX_COUNTER.true))))

pub returns : goal.returns
unfolding create_later
returns c =
    rw (← c.counter_of.ensures) (first-is (miss_lt_by c.requires c.if-e-ge-MAX_ENTRIES.false (miss (lt-leb _ _ c.if-counter_of-ge-MAX_COUNTER.false) none)))
