use mathlib.Core.Path.{refl}
use borrow.Author.Rules.{rules}
use borrow.Author.Tests.{eq-eqb, ne_eqb}
use Rattle.names.specs.Names.{is_named}
use Rattle.sound_names_rows.proofs.is_named.Goals as goal

pub returns-then-e-eq0 : goal.returns-then-e-eq0
unfolding is_named
returns-then-e-eq0 c =
    rw (eq-eqb _ _ c.if-e-eq0.true) refl

pub returns : goal.returns
unfolding is_named
returns c =
    rw (ne_eqb _ _ c.if-e-eq0.false) c.entry_live.ensures
