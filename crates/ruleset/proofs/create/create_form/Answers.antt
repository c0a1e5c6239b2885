use Rattle.laws.proofs.Refusals.{first-is, refusals, reads}
use Rattle.ruleset.specs.Create.{create_form}
use Rattle.ruleset.proofs.create.create_form.Goals as goal

pub returns-then-level_of-eq0 : goal.returns-then-level_of-eq0
unfolding create_form
returns-then-level_of-eq0 c =
    first-is (search (reads, refusals) depth 16 fits 20000)

pub returns-then-flags-ne0 : goal.returns-then-flags-ne0
unfolding create_form
returns-then-flags-ne0 c =
    first-is (search (reads, refusals) depth 16 fits 20000)

pub returns-then-bytes-lt-MIN_ATTRIBUTE : goal.returns-then-bytes-lt-MIN_ATTRIBUTE
unfolding create_form
returns-then-bytes-lt-MIN_ATTRIBUTE c =
    first-is (search (reads, refusals) depth 16 fits 20000)

pub returns-then-bytes-gt-MAX_ATTRIBUTE : goal.returns-then-bytes-gt-MAX_ATTRIBUTE
unfolding create_form
returns-then-bytes-gt-MAX_ATTRIBUTE c =
    first-is (search (reads, refusals) depth 16 fits 20000)

pub returns : goal.returns
unfolding create_form
returns c =
    first-is (search (reads, refusals) depth 16 fits 20000)
