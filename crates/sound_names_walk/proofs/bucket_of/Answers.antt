use mathlib.Core.Path.{refl}
use borrow.Author.Rules.{rules}
use Rattle.sound_names_walk.specs.Fold.{bucket_of}
use Rattle.sound_names_walk.proofs.bucket_of.Goals as goal

pub returns : goal.returns
unfolding bucket_of
returns c =
    (refl, search rules)
