use Rattle.laws.proofs.Refusals.{first-is, refusals}
use Rattle.net.specs.Port.{port_form}
use Rattle.net.proofs.port_form.Goals as goal

pub returns-then-not-thread_live : goal.returns-then-not-thread_live
unfolding port_form
returns-then-not-thread_live c =
    first-is (search refusals depth 16 fits 20000)

pub returns-then-port-gt-MAX_PORT : goal.returns-then-port-gt-MAX_PORT
unfolding port_form
returns-then-port-gt-MAX_PORT c =
    first-is (search refusals depth 16 fits 20000)

pub returns-then-is_empty : goal.returns-then-is_empty
unfolding port_form
returns-then-is_empty c =
    first-is (search refusals depth 16 fits 20000)

pub returns-then-not-contains : goal.returns-then-not-contains
unfolding port_form
returns-then-not-contains c =
    first-is (search refusals depth 16 fits 20000)

pub returns : goal.returns
unfolding port_form
returns c =
    first-is (search refusals depth 16 fits 20000)
