-- Request W1: "Look up an absolute path".
use Rattle.std.specs.Prelude.{cond, List, ℕ, eqb}
use Rattle.laws.specs.Refusals.{first}
use Rattle.access.specs.declared.errno.Reply.{Reply}
use Rattle.names.specs.Paths.{refuse, path_checks, found}

-- the path's own refusals in their order, then what its components come to
unfoldable pub looked_up : List ℕ → List ℕ → List ℕ → Reply
looked_up es ns p = let e = first (path_checks p) in cond (eqb e 0) (found es ns p) (refuse e)
