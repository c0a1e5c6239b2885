use mathlib.Core.Path.{◌≡◌, ap, ◌∙◌}
use mathlib.Core.List.{◌∷◌}
use Prim.Native.Nat.{ℕ, ◌+◌, ◌≤◌, ◌-◌, ◌*◌}
use native.Mathlib.Omega.{arith}
use borrow.Author.Rules.{rules}
use lib.ListN.{length, set}
use Rattle.laws.specs.Cells.{copied}
use Rattle.laws.proofs.Copies.{copied_none, copied_more, copied-cut, length-copied}
use Rattle.names.specs.Names.{name_width, put_name}
use Rattle.name_rows.proofs.put_name.Goals as goal

pub loop-k-init : goal.loop-k-init
unfolding put_name
loop-k-init c =
    (omega arith, omega arith, copied_none _ _ _)

pub row_byte-b-requires : goal.row_byte-b-requires
unfolding put_name
row_byte-b-requires c =
    c.requires

pub loop-k-preserved : goal.loop-k-preserved
unfolding put_name
loop-k-preserved c =
    let y = c.row_byte-b in
    let l = c.loop-k in
    let f = c.row_start-from.result in
    let a = c.args in (
      omega arith,
      l.invariant.1,
      copied_more a.names.now f (length a.name.now ∷ a.name.now) l.k l.names _ l.invariant.2 (c.write_byte.ensures ∙ ap (λ (v : ℕ). set l.names (f + l.k) v) y.ensures),
    )

pub shape_of-names : goal.shape_of-names
unfolding put_name
shape_of-names c =
    let l = c.loop-k in
    let f = c.row_start-from.result in
    let a = c.args in
    ap length l.invariant.2 ∙ length-copied a.names.now f (length a.name.now ∷ a.name.now) l.k

pub returns : goal.returns
unfolding put_name
returns c =
    let l = c.loop-k in
    let s = c.row_start-from in
    let a = c.args in
    let e : l.k ≡ name_width = omega arith in
    l.invariant.2 ∙ ap (copied a.names.now s.result (length a.name.now ∷ a.name.now)) e
    ∙ copied-cut a.names.now (name_width * a.e) (length a.name.now ∷ a.name.now) name_width s.result s.ensures
