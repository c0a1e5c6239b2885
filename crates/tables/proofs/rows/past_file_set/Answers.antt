use mathlib.Core.Path.{sym, ap, ◌∙◌}
use mathlib.Core.Bool.{not}
use Rattle.tables.specs.Tables.{past_file_set}
use Rattle.tables.proofs.rows.past_file_set.Goals as goal

pub returns-then-is_dir : goal.returns-then-is_dir
unfolding past_file_set
returns-then-is_dir c =
    rw (sym c.is_dir.ensures ∙ c.if-is_dir.true)

pub returns : goal.returns
unfolding past_file_set
returns c =
    rw (sym c.is_dir.ensures ∙ c.if-is_dir.false) (ap not c.contains.ensures)
