use mathlib.Core.Path.{refl}
use borrow.Author.Rules.{rules}
use Rattle.tables.proofs.Outcomes.{answer-refused, answer-done}
use Rattle.ruleset.specs.Create.{create_done}
use Rattle.ruleset_apply.proofs.create.Goals as goal

pub returns-then-e-ne0 : goal.returns-then-e-ne0
unfolding create_done
returns-then-e-ne0 c =
    record { answer = answer-refused _ _ _ c.create_checks-e.ensures c.if-e-ne0.true; bytes = refl }

pub returns : goal.returns
unfolding create_done
returns c =
    record { answer = rw (c.apply_create.ensures, c.free_ruleset-r.ensures) (answer-done _ _ _ c.create_checks-e.ensures c.if-e-ne0.false); bytes = refl }
