use Rattle.laws.proofs.Refusals.{first-is, none, hit_ge_by, miss_lt_by}
use Rattle.tree.specs.Link.{link_later}
use Rattle.tree_link.proofs.link_later.Goals as goal

pub returns-then-e-ge-MAX_ENTRIES : goal.returns-then-e-ge-MAX_ENTRIES
unfolding link_later
returns-then-e-ge-MAX_ENTRIES c =
    first-is (hit_ge_by c.requires c.if-e-ge-MAX_ENTRIES.true)

pub returns : goal.returns
unfolding link_later
returns c =
    first-is (miss_lt_by c.requires c.if-e-ge-MAX_ENTRIES.false none)
