use Rattle.laws.proofs.Refusals.{join_stop, join_go}
use Rattle.rule.specs.Rule.{add_path_checks, add_form}
use Rattle.rule.proofs.add_path_checks.Goals as goal

pub returns-then-a-ne0 : goal.returns-then-a-ne0
unfolding add_path_checks add_form
returns-then-a-ne0 c =
    join_stop _ _ c.add_form-a.ensures c.if-a-ne0.true

pub returns : goal.returns
unfolding add_path_checks add_form
returns c =
    join_go _ _ tt c.add_form-a.ensures c.if-a-ne0.false c.path_form.ensures
