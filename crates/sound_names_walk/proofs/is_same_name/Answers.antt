use mathlib.Core.Path.{refl, sym, ◌∙◌}
use borrow.Author.Rules.{rules}
use borrow.Author.Tests.{eq-eqb, ne_eqb}
use Rattle.names.specs.Names.{row_at}
use Rattle.sound_names_walk.specs.Walks.{same_name}
use Rattle.sound_names_walk.proofs.is_same_name.Goals as goal

pub returns-then-parent_of-parent : goal.returns-then-parent_of-parent
unfolding same_name row_at
returns-then-parent_of-parent c =
    rw (ne_eqb _ _ (λ q. c.if-parent_of-parent.true (c.parent_of.ensures ∙ q))) refl

pub returns : goal.returns
unfolding same_name row_at
returns c =
    rw (eq-eqb _ _ (sym c.parent_of.ensures ∙ c.if-parent_of-parent.false)) c.same_row.ensures
