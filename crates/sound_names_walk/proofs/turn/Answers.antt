use mathlib.Core.Path.{refl}
use Rattle.sound_names_walk.specs.Fold.{turned}
use borrow.Author.Rules.{rules}
use Rattle.sound_names_walk.proofs.turn.Goals as goal

pub returns : goal.returns
unfolding turned
returns c = search rules
