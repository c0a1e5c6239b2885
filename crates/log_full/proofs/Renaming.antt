-- The reply of a rename's checks, over the bearer of its name. Assumes nothing.
use mathlib.Core.Path.{◌≡◌}
use mathlib.Core.List.{List}
use Prim.Native.Nat.{ℕ}
use Rattle.access.specs.declared.errno.Reply.{Reply}
use Rattle.fs.specs.Blame.{move_reply}
use Rattle.tree.specs.declared.Replaced.{Replaced}
use Rattle.tree.specs.Moves.{rename_move}
use Rattle.names.specs.Names.{bearer}
use Rattle.named.specs.Named.{Named}
use Rattle.named.specs.Tree.{replaced_by, rename_named_checks}

pub over_bearer : (N : Named) (t s d : ℕ) (n : List ℕ) {x : Replaced} → x ≡ bearer N.core.entries N.names d n → {r : Reply}
    → r ≡ move_reply N.core t (rename_move N.core.entries s d x) (rename_named_checks N t s d n)
    → r ≡ move_reply N.core t (rename_move N.core.entries s d (replaced_by N d n)) (rename_named_checks N t s d n)
unfolding replaced_by
over_bearer N t s d n e q = rw e at q
