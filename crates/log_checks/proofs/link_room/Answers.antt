use Rattle.laws.proofs.Refusals.{first-is, none, hit_by, miss_by, hit_ge_by, miss_lt_by}
use Rattle.tree_log.specs.Tree.{no_entry}
use Rattle.log_checks.specs.Checks.{link_room}
use Rattle.log_checks.proofs.link_room.Goals as goal

pub returns-then-is_dir : goal.returns-then-is_dir
unfolding link_room no_entry
returns-then-is_dir c =
    first-is (hit_by c.is_dir.ensures c.if-is_dir.true)

pub returns-then-free_entry-ge-MAX_ENTRIES : goal.returns-then-free_entry-ge-MAX_ENTRIES
unfolding link_room no_entry
returns-then-free_entry-ge-MAX_ENTRIES c =
    first-is (miss_by c.is_dir.ensures c.if-is_dir.false (hit_ge_by c.free_entry.ensures c.if-free_entry-ge-MAX_ENTRIES.true))

pub returns : goal.returns
unfolding link_room no_entry
returns c =
    first-is (miss_by c.is_dir.ensures c.if-is_dir.false (miss_lt_by c.free_entry.ensures c.if-free_entry-ge-MAX_ENTRIES.false none))
