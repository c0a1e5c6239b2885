use Rattle.laws.proofs.Refusals.{first-is, refusals}
use Rattle.domain_restrict.specs.Restrict.{restrict_room}
use Rattle.domain_restrict.proofs.restrict_room.Goals as goal

pub returns-then-not-ruleset_open : goal.returns-then-not-ruleset_open
unfolding restrict_room
returns-then-not-ruleset_open c =
    first-is (search refusals depth 16 fits 20000)

pub returns-then-is_deep : goal.returns-then-is_deep
unfolding restrict_room
returns-then-is_deep c =
    first-is (search refusals depth 16 fits 20000)

pub returns-then-has_no_room : goal.returns-then-has_no_room
unfolding restrict_room
returns-then-has_no_room c =
    first-is (search refusals depth 16 fits 20000)

pub returns : goal.returns
unfolding restrict_room
returns c =
    first-is (search refusals depth 16 fits 20000)
