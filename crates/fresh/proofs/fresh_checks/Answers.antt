use Rattle.laws.proofs.Refusals.{first-is, refusals}
use Rattle.tables.specs.Fresh.{fresh_checks}
use Rattle.fresh.proofs.fresh_checks.Goals as goal

pub returns-then-not-right : goal.returns-then-not-right
unfolding fresh_checks
returns-then-not-right c =
    first-is (search refusals depth 16)

pub returns-then-high : goal.returns-then-high
unfolding fresh_checks
returns-then-high c =
    first-is (search refusals depth 16)

pub returns : goal.returns
unfolding fresh_checks
returns c =
    first-is (search refusals depth 16)
