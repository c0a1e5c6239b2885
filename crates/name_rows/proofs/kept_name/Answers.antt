use mathlib.Core.Path.{ap, ◌∙◌}
use mathlib.Core.List.{List}
use Prim.Native.Nat.{ℕ, ◌≤◌}
use native.Mathlib.Omega.{arith}
use borrow.Author.Rules.{rules}
use lib.ListN.{length}
use Rattle.names.specs.Names.{max_name, name_at}
use Rattle.names.proofs.Rows.{name_put}
use Rattle.name_rows.proofs.Bytes.{name_short}
use Rattle.name_rows.proofs.kept_name.Goals as goal

pub put_name-requires : goal.put_name-requires
put_name-requires c =
    let short : length c.name_of.result.now ≤ max_name = let a = c.args in rw c.name_of.ensures (name_short a.names.now a.e) in
    short

pub returns : goal.returns
returns c =
    let short : length c.name_of.result.now ≤ max_name = let a = c.args in rw c.name_of.ensures (name_short a.names.now a.e) in
    ap (λ (t : List ℕ). name_at t 0) c.put_name.ensures ∙ name_put _ 0 c.name_of.result.now (omega arith) (short) ∙ c.name_of.ensures
