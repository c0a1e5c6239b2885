use mathlib.Core.Path.{sym, ◌∙◌}
use borrow.Author.Tests.{eq-eqb, ne_eqb, not-true, not-false}
use Rattle.tree.specs.Entries.{is_child}
use Rattle.tree.proofs.entries.is_child.Goals as goal

pub returns-then-x-eq0 : goal.returns-then-x-eq0
unfolding is_child
returns-then-x-eq0 c =
    rw (eq-eqb _ _ c.if-x-eq0.true)

pub returns-then-not-entry_live : goal.returns-then-not-entry_live
unfolding is_child
returns-then-not-entry_live c =
    rw (ne_eqb _ _ c.if-x-eq0.false, sym c.entry_live.ensures ∙ c.if-not-entry_live.true)

pub returns : goal.returns
unfolding is_child
returns c =
    rw (ne_eqb _ _ c.if-x-eq0.false, sym c.entry_live.ensures ∙ c.if-not-entry_live.false, ← c.parent_of.ensures)
