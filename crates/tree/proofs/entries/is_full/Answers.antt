use mathlib.Core.Path.{sym, ◌∙◌}
use borrow.Author.Tests.{not-true, not-false}
use Rattle.tree.specs.Entries.{is_full}
use Rattle.tree.proofs.entries.is_full.Goals as goal

pub returns-then-not-is_dir : goal.returns-then-not-is_dir
unfolding is_full
returns-then-not-is_dir c =
    rw (sym c.is_dir.ensures ∙ c.if-not-is_dir.true)

pub returns : goal.returns
unfolding is_full
returns c =
    rw (sym c.is_dir.ensures ∙ c.if-not-is_dir.false) c.has_child.ensures
