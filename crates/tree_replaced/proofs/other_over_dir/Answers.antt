use mathlib.Core.Path.{sym, ◌∙◌}
use Rattle.tree_replaced.proofs.other_over_dir.Goals as goal

pub returns-then-is_dir : goal.returns-then-is_dir
returns-then-is_dir c =
    rw (sym c.is_dir.ensures ∙ c.if-is_dir.true)

pub returns : goal.returns
returns c =
    rw (sym c.is_dir.ensures ∙ c.if-is_dir.false) c.is_dir-2.ensures
