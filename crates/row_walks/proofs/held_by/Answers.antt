use mathlib.Core.Path.{sym, ◌∙◌}
use borrow.Author.Tests.{eqb-true}
use Rattle.row_walks.proofs.Masks.{needs-none, crossed-none}
use Rattle.row_walks.proofs.held_by.Goals as goal

pub returns-then-is_empty : goal.returns-then-is_empty
returns-then-is_empty c =
    let a = c.args in
    let z = sym c.may_hold.ensures ∙ eqb-true _ _ (sym c.is_empty.ensures ∙ c.if-is_empty.true) in
    record { needs = needs-none a.m a.d1.0 a.d2.0 z; crossed = crossed-none a.m a.d1.0 a.d2.0 z _ _ }

pub returns : goal.returns
returns c =
    c.held_against.ensures
