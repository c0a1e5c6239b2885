use mathlib.Core.Path.{refl}
use borrow.Author.Tests.{lt-ltb, le-ltb, eq-eqb, ne_eqb}
use Rattle.slots.specs.Slots.{said}
use Rattle.slots.proofs.said.Goals as goal

pub returns-then-k-lt8 : goal.returns-then-k-lt8
unfolding said
returns-then-k-lt8 c =
    rw (lt-ltb _ 8 c.if-k-lt8.true) refl

pub returns-then-k-eq8 : goal.returns-then-k-eq8
unfolding said
returns-then-k-eq8 c =
    rw (le-ltb _ 8 c.if-k-lt8.false, eq-eqb _ 8 c.if-k-eq8.true) refl

pub returns : goal.returns
unfolding said
returns c =
    rw (le-ltb _ 8 c.if-k-lt8.false, ne_eqb _ 8 c.if-k-eq8.false) refl
