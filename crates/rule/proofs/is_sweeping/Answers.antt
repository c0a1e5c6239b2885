use mathlib.Core.Path.{ap}
use mathlib.Core.Bool.{not}
use borrow.Author.Tests.{eq-eqb, ne_eqb}
use Rattle.rule.specs.Rule.{sweeping}
use Rattle.rule.proofs.is_sweeping.Goals as goal

pub returns-then-e-ne0 : goal.returns-then-e-ne0
unfolding sweeping
returns-then-e-ne0 c =
    rw (ne_eqb _ 0 c.if-e-ne0.true)

pub returns : goal.returns
unfolding sweeping
returns c =
    rw (eq-eqb _ 0 c.if-e-ne0.false, ← c.meet.ensures) (ap not c.is_empty.ensures)
