use borrow.Author.Tests.{le-leb, lt-leb}
use Rattle.rule.specs.Rule.{is_full}
use Rattle.rule.proofs.is_full.Goals as goal

pub returns-then-count-place_in : goal.returns-then-count-place_in
unfolding is_full
returns-then-count-place_in c =
    rw (← c.ruleset_count-count.ensures, ← c.place_in.ensures, lt-leb _ _ c.if-count-place_in.true)

pub returns : goal.returns
unfolding is_full
returns c =
    rw (← c.ruleset_count-count.ensures, ← c.place_in.ensures, le-leb _ _ c.if-count-place_in.false)
