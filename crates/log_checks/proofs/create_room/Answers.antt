use borrow.Author.Tests.{le-leb, lt-leb}
use Rattle.laws.proofs.Refusals.{first-is, none, hit, miss, hit_by, miss_by, hit_ge_by, miss_lt_by}
use Rattle.tree_log.specs.Tree.{no_entry, no_object}
use Rattle.log_checks.specs.Checks.{create_room}
use Rattle.log_checks.proofs.create_room.Goals as goal

pub returns-then-unknown_kind : goal.returns-then-unknown_kind
unfolding create_room no_entry no_object
returns-then-unknown_kind c =
    first-is (hit_by c.unknown_kind.ensures c.if-unknown_kind.true)

pub returns-then-free_entry-ge-MAX_ENTRIES : goal.returns-then-free_entry-ge-MAX_ENTRIES
unfolding create_room no_entry no_object
returns-then-free_entry-ge-MAX_ENTRIES c =
    first-is (miss_by c.unknown_kind.ensures c.if-unknown_kind.false (hit_ge_by c.free_entry.ensures c.if-free_entry-ge-MAX_ENTRIES.true))

pub returns-then-next-ge-MAX_COUNTER : goal.returns-then-next-ge-MAX_COUNTER
unfolding create_room no_entry no_object
returns-then-next-ge-MAX_COUNTER c =
    first-is (miss_by c.unknown_kind.ensures c.if-unknown_kind.false (miss_lt_by c.free_entry.ensures c.if-free_entry-ge-MAX_ENTRIES.false (hit (le-leb _ _ c.if-next-ge-MAX_COUNTER.true))))

pub returns : goal.returns
unfolding create_room no_entry no_object
returns c =
    first-is (miss_by c.unknown_kind.ensures c.if-unknown_kind.false (miss_lt_by c.free_entry.ensures c.if-free_entry-ge-MAX_ENTRIES.false (miss (lt-leb _ _ c.if-next-ge-MAX_COUNTER.false) none)))
