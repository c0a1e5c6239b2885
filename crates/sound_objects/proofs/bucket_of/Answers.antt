use borrow.Author.Rules.{rules}
use Rattle.sound_objects.specs.Objects.{bucket_of}
use Rattle.sound_objects.proofs.bucket_of.Goals as goal

pub returns : goal.returns
unfolding bucket_of
returns c = search rules
