use Rattle.laws.proofs.Refusals.{join_stop, join_go}
use Rattle.ruleset.specs.Create.{create_checks, create_form}
use Rattle.ruleset.proofs.create.create_checks.Goals as goal

pub returns-then-e-ne0 : goal.returns-then-e-ne0
unfolding create_checks create_form
returns-then-e-ne0 c =
    join_stop _ _ c.create_form-e.ensures c.if-e-ne0.true

pub returns : goal.returns
unfolding create_checks create_form
returns c =
    join_go _ _ tt c.create_form-e.ensures c.if-e-ne0.false c.create_masks.ensures
