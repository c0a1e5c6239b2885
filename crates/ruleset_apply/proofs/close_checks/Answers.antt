use Rattle.laws.proofs.Refusals.{first-is, refusals}
use Rattle.ruleset.specs.Create.{close_checks}
use Rattle.ruleset_apply.proofs.close_checks.Goals as goal

pub returns-then-not-ruleset_open : goal.returns-then-not-ruleset_open
unfolding close_checks
returns-then-not-ruleset_open c =
    first-is (search refusals depth 16 fits 20000)

pub returns : goal.returns
unfolding close_checks
returns c =
    first-is (search refusals depth 16 fits 20000)
