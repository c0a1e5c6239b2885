use borrow.Author.Rules.{rules}
use borrow.Author.Tests.{eq-eqb, ne_eqb}
use Rattle.path_lookup.specs.Lookup.{looked_up}
use Rattle.path_lookup.proofs.lookup.Goals as goal

pub returns-then-code-ne0 : goal.returns-then-code-ne0
unfolding looked_up
returns-then-code-ne0 c =
    rw (← c.path_checks-code.ensures, ne_eqb _ 0 c.if-code-ne0.true)

pub returns : goal.returns
unfolding looked_up
returns c =
    rw (← c.path_checks-code.ensures, eq-eqb _ 0 c.if-code-ne0.false) c.walk.ensures
