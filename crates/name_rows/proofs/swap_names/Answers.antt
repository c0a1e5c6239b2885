use mathlib.Core.Path.{◌≡◌, ap, ◌∙◌}
use mathlib.Core.List.{List}
use Prim.Native.Nat.{ℕ}
use borrow.Author.Rules.{rules}
use Rattle.names.specs.Names.{name_at, put_name, swap_names}
use Rattle.name_rows.proofs.Bytes.{name_short}
use Rattle.name_rows.proofs.swap_names.Goals as goal

pub put_name-requires : goal.put_name-requires
unfolding swap_names
put_name-requires c =
    rw c.name_of.ensures (name_short _ 0)

pub put_name-requires-2 : goal.put_name-requires-2
unfolding swap_names
put_name-requires-2 c =
    rw c.name_of-2.ensures (name_short _ 0)

pub returns : goal.returns
unfolding swap_names
returns c =
    let a = c.args in
    let of-s : c.name_of-2.result.now ≡ name_at a.names.now a.s = c.name_of-2.ensures ∙ c.kept_name-of_s.ensures in
    let of-x : c.name_of.result.now ≡ name_at a.names.now a.x = c.name_of.ensures ∙ c.kept_name-of_x.ensures in
    c.put_name-2.ensures
    ∙ ap (λ (t : List ℕ). put_name t a.x c.name_of-2.result.now) (c.put_name.ensures ∙ ap (put_name a.names.now a.s) of-x)
    ∙ ap (put_name (put_name a.names.now a.s (name_at a.names.now a.x)) a.x) of-s
