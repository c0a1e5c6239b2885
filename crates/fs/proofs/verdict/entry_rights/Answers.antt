use mathlib.Core.Path.{sym, ◌∙◌}
use Rattle.fs.specs.Move.{entry_rights}
use Rattle.fs.proofs.verdict.entry_rights.Goals as goal

pub returns-then-is_dir : goal.returns-then-is_dir
unfolding entry_rights
returns-then-is_dir c =
    rw (sym c.is_dir.ensures ∙ c.if-is_dir.true)

pub returns-else-is_dir : goal.returns-else-is_dir
unfolding entry_rights
returns-else-is_dir c =
    rw (sym c.is_dir.ensures ∙ c.if-is_dir.false)
