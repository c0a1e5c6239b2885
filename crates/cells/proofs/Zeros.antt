-- A test of every element of a list is the test of each place below its length. Assumes nothing.
use mathlib.Core.Path.{◌≡◌, refl, sym, ap, ◌∙◌}
use mathlib.Core.Bool.{Bool, ◌&&◌}
use mathlib.Core.List.{List}
use Prim.Native.Nat.{ℕ, zero, suc, ◌≤◌}
use native.Mathlib.Nat.{le_refl}
use native.Mathlib.Numerals.{add-one}
use native.Mathlib.Omega.{arith}
use lib.Dec.{eqb}
use lib.ListN.{length, get_or, take}
use Rattle.std.specs.List.{list_all}
use Rattle.std.proofs.lemmas.List.{take_all}
use Rattle.std.proofs.lemmas.List.Folds.{list_all_more}
use Rattle.laws.specs.Tests.{all_below}
use Rattle.laws.specs.Cells.{zeros}

below_taken : (p : ℕ → Bool) (xs : List ℕ) (n : ℕ) → n ≤ length xs → list_all p (take n xs) ≡ all_below (λ i. p (get_or xs i 0)) n
unfolding all_below
below_taken p xs zero h = refl
below_taken p xs (suc n) h =
    rw add-one at (list_all_more p xs n 0 (omega arith)) ∙ ap (λ (b : Bool). b && p (get_or xs n 0)) (below_taken p xs n (omega arith))

pub zeros_all : (xs : List ℕ) → list_all (λ x. eqb x 0) xs ≡ zeros xs
unfolding zeros
zeros_all xs = ap (list_all (λ x. eqb x 0)) (sym (take_all (length xs) xs (le_refl (length xs)))) ∙ below_taken (λ x. eqb x 0) xs (length xs) (le_refl (length xs))
