use mathlib.Core.Path.{refl}
use borrow.Author.Rules.{rules}
use borrow.Author.Tests.{eq-eqb, ne_eqb}
use Rattle.sound_names_rows.specs.Form.{is_dots}
use Rattle.sound_names_rows.proofs.is_dots.Goals as goal

pub returns-then-row-ne-DOT : goal.returns-then-row-ne-DOT
unfolding is_dots
returns-then-row-ne-DOT c =
    rw (ne_eqb _ _ c.if-row-ne-DOT.true) refl

pub returns-then-n-eq1 : goal.returns-then-n-eq1
unfolding is_dots
returns-then-n-eq1 c =
    rw (eq-eqb _ _ c.if-row-ne-DOT.false, eq-eqb _ _ c.if-n-eq1.true) refl

pub returns-then-n-ne2 : goal.returns-then-n-ne2
unfolding is_dots
returns-then-n-ne2 c =
    rw (eq-eqb _ _ c.if-row-ne-DOT.false, ne_eqb _ _ c.if-n-eq1.false, ne_eqb _ _ c.if-n-ne2.true) refl

pub returns : goal.returns
unfolding is_dots
returns c =
    rw (eq-eqb _ _ c.if-row-ne-DOT.false, ne_eqb _ _ c.if-n-eq1.false, eq-eqb _ _ c.if-n-ne2.false) refl
