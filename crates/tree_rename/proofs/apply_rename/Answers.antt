use mathlib.Core.Path.{sym, ◌∙◌}
use borrow.Author.Rules.{rules}
use Rattle.tree.specs.Rename.{moved}
use Rattle.tree_rename.proofs.apply_rename.Goals as goal

pub returns-then-is_same : goal.returns-then-is_same
unfolding moved
returns-then-is_same c =
    rw (sym c.is_same.ensures ∙ c.if-is_same.true)

pub returns : goal.returns
unfolding moved
returns c =
    rw (sym c.is_same.ensures ∙ c.if-is_same.false, ← c.put_parent.ensures) c.drop_replaced.ensures
