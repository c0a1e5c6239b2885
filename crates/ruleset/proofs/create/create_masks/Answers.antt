use Rattle.laws.proofs.Refusals.{first-is, refusals, reads}
use Rattle.ruleset.specs.Create.{create_masks}
use Rattle.ruleset.proofs.create.create_masks.Goals as goal

pub returns-then-is_stray : goal.returns-then-is_stray
unfolding create_masks
returns-then-is_stray c =
    rw
    (← c.level_of-level.ensures, ← c.known_size.ensures, ← c.mask.ensures, ← c.mask-2.ensures, ← c.mask-3.ensures)
    (first-is (search (reads, refusals) depth 16 fits 20000))

pub returns-then-not-masks_known : goal.returns-then-not-masks_known
unfolding create_masks
returns-then-not-masks_known c =
    rw
    (← c.level_of-level.ensures, ← c.known_size.ensures, ← c.mask.ensures, ← c.mask-2.ensures, ← c.mask-3.ensures)
    (first-is (search (reads, refusals) depth 16 fits 20000))

pub returns-then-not-handles_any : goal.returns-then-not-handles_any
unfolding create_masks
returns-then-not-handles_any c =
    rw
    (← c.level_of-level.ensures, ← c.known_size.ensures, ← c.mask.ensures, ← c.mask-2.ensures, ← c.mask-3.ensures)
    (first-is (search (reads, refusals) depth 16 fits 20000))

pub returns-then-free_ruleset-ge-MAX_RULESETS : goal.returns-then-free_ruleset-ge-MAX_RULESETS
unfolding create_masks
returns-then-free_ruleset-ge-MAX_RULESETS c =
    rw
    (← c.level_of-level.ensures, ← c.known_size.ensures, ← c.mask.ensures, ← c.mask-2.ensures, ← c.mask-3.ensures)
    (first-is (search (reads, refusals) depth 16 fits 20000))

pub returns : goal.returns
unfolding create_masks
returns c =
    rw
    (← c.level_of-level.ensures, ← c.known_size.ensures, ← c.mask.ensures, ← c.mask-2.ensures, ← c.mask-3.ensures)
    (first-is (search (reads, refusals) depth 16 fits 20000))
