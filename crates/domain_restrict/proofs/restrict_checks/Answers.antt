use Rattle.laws.proofs.Refusals.{join_stop, join_go}
use Rattle.domain_restrict.specs.Restrict.{restrict_form, restrict_checks}
use Rattle.domain_restrict.proofs.restrict_checks.Goals as goal

pub returns-then-e-ne0 : goal.returns-then-e-ne0
unfolding restrict_checks restrict_form
returns-then-e-ne0 c =
    join_stop _ _ c.restrict_form-e.ensures c.if-e-ne0.true

pub returns : goal.returns
unfolding restrict_checks restrict_form
returns c =
    join_go _ _ tt c.restrict_form-e.ensures c.if-e-ne0.false c.restrict_room.ensures
