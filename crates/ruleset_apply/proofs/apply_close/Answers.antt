use mathlib.Core.Path.{◌∙◌}
use borrow.Author.Rules.{rules}
use Rattle.laws.proofs.Copies.{copied-cut}
use Rattle.ruleset.specs.Create.{closed_row}
use Rattle.ruleset_apply.proofs.apply_close.Goals as goal

pub returns : goal.returns
unfolding closed_row
returns c =
    c.copy.ensures ∙ copied-cut _ _ _ _ _ c.row_start-from.ensures
