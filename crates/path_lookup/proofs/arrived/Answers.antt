use mathlib.Core.Path.{sym, ◌∙◌}
use borrow.Author.Rules.{rules}
use borrow.Author.Tests.{not-true, not-false}
use Rattle.names.specs.Paths.{arrived}
use Rattle.path_lookup.proofs.arrived.Goals as goal

pub returns-then-not-is_dir : goal.returns-then-not-is_dir
unfolding arrived
returns-then-not-is_dir c =
    rw (sym c.is_closing.ensures ∙ c.if-is_closing.true, sym c.is_dir.ensures ∙ c.if-not-is_dir.true)

pub returns-else-not-is_dir : goal.returns-else-not-is_dir
unfolding arrived
returns-else-not-is_dir c =
    rw (sym c.is_closing.ensures ∙ c.if-is_closing.true, sym c.is_dir.ensures ∙ c.if-not-is_dir.false)

pub returns-else-is_closing : goal.returns-else-is_closing
unfolding arrived
returns-else-is_closing c =
    rw (sym c.is_closing.ensures ∙ c.if-is_closing.false)
