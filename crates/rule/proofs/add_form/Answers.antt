use Rattle.laws.proofs.Refusals.{first-is, refusals, reads}
use Rattle.rule.specs.Rule.{add_form}
use Rattle.rule.proofs.add_form.Goals as goal

pub returns-then-level_of-eq0 : goal.returns-then-level_of-eq0
unfolding add_form
returns-then-level_of-eq0 c =
    first-is (search (reads, refusals) depth 16 fits 20000)

pub returns-then-flags-ne0 : goal.returns-then-flags-ne0
unfolding add_form
returns-then-flags-ne0 c =
    first-is (search (reads, refusals) depth 16 fits 20000)

pub returns-then-not-ruleset_open : goal.returns-then-not-ruleset_open
unfolding add_form
returns-then-not-ruleset_open c =
    first-is (search (reads, refusals) depth 16 fits 20000)

pub returns-then-is_empty : goal.returns-then-is_empty
unfolding add_form
returns-then-is_empty c =
    first-is (search (reads, refusals) depth 16 fits 20000)

pub returns : goal.returns
unfolding add_form
returns c =
    first-is (search (reads, refusals) depth 16 fits 20000)
