use mathlib.Core.Path.{sym, ap, ◌∙◌}
use mathlib.Core.Bool.{not}
use borrow.Author.Tests.{not-true, not-false}
use Rattle.tree_replaced.proofs.dir_over_other.Goals as goal

pub returns-then-not-is_dir : goal.returns-then-not-is_dir
returns-then-not-is_dir c =
    rw (sym c.is_dir.ensures ∙ c.if-not-is_dir.true)

pub returns : goal.returns
returns c =
    rw (sym c.is_dir.ensures ∙ c.if-not-is_dir.false) (ap not c.is_dir-2.ensures)
