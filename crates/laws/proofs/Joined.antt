-- What it tells of the parts that none of a joined list of refusals applied. Assumes nothing.
use mathlib.Core.Path.{◌≡◌, refl, sym}
use mathlib.Core.Bool.{true, false}
use mathlib.Core.List.{List, [], ◌∷◌, ◌++◌}
use Prim.Native.Nat.{zero, suc}
use native.Mathlib.Omega.{arith}
use Rattle.laws.specs.Refusals.{Check, ◌⇒◌, first}
use Rattle.laws.proofs.Refusals.{Refusing, join_go}

pub join-left : (xs ys : List Check) → first (xs ++ ys) ≡ 0 → first xs ≡ 0
unfolding first
join-left [] ys h = refl
join-left ((true ⇒ e) ∷ xs) ys h = h
join-left ((false ⇒ e) ∷ xs) ys h = join-left xs ys h

pub join-right : (xs ys : List Check) → Refusing xs → first (xs ++ ys) ≡ 0 → first ys ≡ 0
unfolding first
join-right [] ys r h = h
join-right ((b ⇒ zero) ∷ xs) ys r h = absurd r
join-right ((true ⇒ suc e) ∷ xs) ys r h = absurd (let z : suc e ≡ 0 = h in omega arith)
join-right ((false ⇒ suc e) ∷ xs) ys r h = join-right xs ys r h

-- past checks that did not apply, the rest decides
pub join-past : (xs ys : List Check) → Refusing xs → first xs ≡ 0 → first (xs ++ ys) ≡ first ys
join-past xs ys r h = sym (join_go xs ys r refl h refl)
