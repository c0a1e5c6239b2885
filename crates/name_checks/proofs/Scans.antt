-- How a scan comes to a byte of a text; the empty name. Assumes nothing.
use mathlib.Core.Path.{◌≡◌, refl, sym, ◌∙◌}
use mathlib.Core.Bool.{true, false}
use mathlib.Core.List.{List, [], ◌∷◌}
use Prim.Native.Nat.{ℕ, suc, ◌+◌, ◌≤◌, ◌<◌}
use native.Mathlib.Numerals.{add-one}
use native.Mathlib.Omega.{arith}
use lib.ListN.{length, get_or, drop, drop_of_length-le}
use lib.Seq.{drop-cons}
use borrow.Author.Tests.{eq-eqb, ne_eqb}
use Rattle.laws.specs.Tests.{elem}
use Rattle.names.specs.Names.{same_bytes}

-- ---- the invariant of a search for a byte: it is in the text if it is in the rest
module _ (xs : List ℕ) (b i : ℕ) where
  abbrev pub Rest : Type 0
  Rest = elem b xs ≡ elem b (drop i xs)

  module _ (r : Rest) where
    pub rest_hit : i < length xs → get_or xs i 0 ≡ b → true ≡ elem b xs
    unfolding elem
    rest_hit l h = sym (r ∙ rw (drop-cons xs i 0 l, eq-eqb b (get_or xs i 0) (sym h)) refl)

    pub rest-on : i < length xs → (get_or xs i 0 ≡ b → ⊥) → elem b xs ≡ elem b (drop (i + 1) xs)
    unfolding elem
    rest-on l n = r ∙ rw (add-one, drop-cons xs i 0 l, ne_eqb b (get_or xs i 0) (λ e. n (sym e))) refl

    pub rest_end : length xs ≤ i → false ≡ elem b xs
    unfolding elem
    rest_end g = sym (r ∙ rw (drop_of_length-le xs g) refl)

-- ---- the empty name
pub empty : (n : List ℕ) → length n ≡ 0 → same_bytes n [] ≡ true
unfolding same_bytes
empty [] h = refl
empty (x ∷ n) h = absurd (let z : suc (length n) ≡ 0 = h in omega arith)

pub not_empty : (n : List ℕ) → (length n ≡ 0 → ⊥) → same_bytes n [] ≡ false
unfolding same_bytes
not_empty [] h = absurd (h refl)
not_empty (x ∷ n) h = refl
