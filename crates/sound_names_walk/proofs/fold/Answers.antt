use borrow.Author.Rules.{rules}
use Rattle.sound_names_walk.specs.Fold.{folded}
use Rattle.sound_names_walk.proofs.fold.Goals as goal

pub returns : goal.returns
unfolding folded
returns c =
    cc
