use mathlib.Core.Path.{refl}
use borrow.Author.Rules.{rules}
use Rattle.sound_objects.specs.Objects.{child_of}
use Rattle.sound_objects.proofs.child_of.Goals as goal

pub returns : goal.returns
unfolding child_of
returns c =
    (refl, search rules)
