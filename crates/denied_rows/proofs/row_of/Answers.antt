use mathlib.Core.Path.{refl}
use borrow.Author.Rules.{rules}
use Rattle.denied_rows.specs.Rows.{row_of}
use Rattle.denied_rows.proofs.row_of.Goals as goal

pub returns : goal.returns
unfolding row_of
returns c = search rules
