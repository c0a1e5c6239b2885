use mathlib.Core.Path.{ap}
use Prim.Native.Nat.{ℕ}
use borrow.Author.Rules.{rules}
use lib.Dec.{ltb}
use Rattle.access.specs.Limits.{max_entries}
use Rattle.names.specs.Names.{taken}
use Rattle.name_bearer.proofs.is_taken.Goals as goal

pub returns : goal.returns
unfolding taken
returns c =
    ap (λ (x : ℕ). ltb x max_entries) c.bearer_from.ensures
