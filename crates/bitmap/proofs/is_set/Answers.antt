use borrow.Author.Rules.{rules}
use Rattle.access.specs.Rights.{has}
use Rattle.bitmap.specs.Bitmap.{flag}
use Rattle.bitmap.proofs.is_set.Goals as goal

pub returns : goal.returns
unfolding flag has
returns c = search rules
