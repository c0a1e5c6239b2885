use mathlib.Core.Path.{refl}
use Rattle.sound_names_rows.specs.Form.{fitting}
use borrow.Author.Rules.{rules}
use Rattle.sound_names_rows.proofs.is_fitting.Goals as goal

pub returns : goal.returns
unfolding fitting
returns c = search rules
