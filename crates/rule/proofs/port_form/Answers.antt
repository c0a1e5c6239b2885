use Rattle.laws.proofs.Refusals.{first-is, refusals}
use Rattle.tables.specs.Layers.{ruleset_at}
use Rattle.rule.specs.Rule.{port_form}
use Rattle.rule.proofs.port_form.Goals as goal

pub returns-then-not-contains : goal.returns-then-not-contains
unfolding port_form ruleset_at
returns-then-not-contains c =
    rw (← c.ruleset_net-net.ensures) (first-is (search refusals depth 16 fits 20000))

pub returns-then-port-gt-MAX_PORT : goal.returns-then-port-gt-MAX_PORT
unfolding port_form ruleset_at
returns-then-port-gt-MAX_PORT c =
    rw (← c.ruleset_net-net.ensures) (first-is (search refusals depth 16 fits 20000))

pub returns-then-is_full : goal.returns-then-is_full
unfolding port_form ruleset_at
returns-then-is_full c =
    rw (← c.ruleset_net-net.ensures) (first-is (search refusals depth 16 fits 20000))

pub returns : goal.returns
unfolding port_form ruleset_at
returns c =
    rw (← c.ruleset_net-net.ensures) (first-is (search refusals depth 16 fits 20000))
