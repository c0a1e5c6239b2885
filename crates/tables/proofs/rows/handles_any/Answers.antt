use mathlib.Core.Path.{sym, ap, ◌∙◌}
use mathlib.Core.Bool.{not}
use borrow.Author.Rules.{rules}
use borrow.Author.Tests.{not-true, not-false}
use Rattle.tables.specs.Layers.{handles_any}
use Rattle.tables.proofs.rows.handles_any.Goals as goal

pub returns-then-not-is_empty : goal.returns-then-not-is_empty
unfolding handles_any
returns-then-not-is_empty c =
    rw (sym c.is_empty.ensures ∙ c.if-not-is_empty.true)

pub returns-then-not-is_empty-2 : goal.returns-then-not-is_empty-2
unfolding handles_any
returns-then-not-is_empty-2 c =
    rw (sym c.is_empty.ensures ∙ c.if-not-is_empty.false, sym c.is_empty-2.ensures ∙ c.if-not-is_empty-2.true)

pub returns : goal.returns
unfolding handles_any
returns c =
    rw (sym c.is_empty.ensures ∙ c.if-not-is_empty.false, sym c.is_empty-2.ensures ∙ c.if-not-is_empty-2.false)
    (ap not c.is_empty-3.ensures)
