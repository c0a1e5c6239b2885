use mathlib.Core.Path.{ap, ◌∙◌}
use borrow.Author.Rules.{rules}
use Rattle.names.specs.Names.{name_of}
use Rattle.name_rows.proofs.name_of.Goals as goal

pub returns : goal.returns
returns c =
    c.name_in.ensures ∙ ap name_of c.row_of.ensures
