-- The walk takes one piece after another. Assumes nothing.
use mathlib.Core.Path.{◌≡◌, refl, sym, ap, ◌∙◌}
use mathlib.Core.List.{List, [], ◌∷◌, ◌++◌}
use Prim.Native.Nat.{ℕ, zero, suc, ◌+◌, ◌-◌, ◌≤◌, ◌<◌}
use native.Mathlib.Omega.{arith}
use lib.ListN.{length, drop, length-drop, length-append}
use Rattle.policy.specs.Fields.{Piece, field, stray, size, pieces, front}
use Rattle.policy.specs.Meaning.{Rule}
use Rattle.policy.proofs.Pieces.{sizes, pieces_nil, pieces_step, pieces_sizes}
use Rattle.policy_walk.specs.Flat.{flat_step, flat, flatten}

pub front_nil : front (pieces []) ≡ stray []
unfolding front
front_nil = rw pieces_nil

front_fits : (xs : List ℕ) → 0 < length xs → length (drop (size (front (pieces xs))) xs) + size (front (pieces xs)) ≡ length xs
unfolding sizes
front_fits xs h =
    let s : sizes (pieces xs) ≡ size (front (pieces xs)) + sizes (pieces (drop (size (front (pieces xs))) xs)) = ap sizes (pieces_step xs h) in
    let a = pieces_sizes xs in
    let b = length-drop (size (front (pieces xs))) xs in
    omega arith

-- the fuel does not count
step_fuel : (g h : List ℕ → List Rule) (level : ℕ) (zs : List ℕ) (p : Piece) → ((ys : List ℕ) → length ys < length zs + size p → g ys ≡ h ys) → flat_step g level zs p ≡ flat_step h level zs p
unfolding flat_step size
step_fuel g h level zs (stray s) same = refl
step_fuel g h level zs (field t v) same =
    let a : length (drop 1 v ++ zs) ≡ length (drop 1 v) + length zs = length-append (drop 1 v) zs in
    let b : length (drop 1 v) ≡ length v - 1 = length-drop 1 v in
    rw (same (drop 1 v ++ zs) (omega arith), same zs (omega arith))

module _ (level : ℕ) where
  flat_nil : (n : ℕ) → flat level n [] ≡ []
  unfolding flat flat_step
  flat_nil zero = refl
  flat_nil (suc n) = rw front_nil

  flat-none : (n m : ℕ) (xs : List ℕ) → length xs ≤ 0 → flat level n xs ≡ flat level m xs
  flat-none n m [] a = flat_nil n ∙ sym (flat_nil m)
  flat-none n m (x ∷ xs) a = absurd (omega arith)

  fuel_step : (n m : ℕ) (xs : List ℕ) → ((ys : List ℕ) → length ys ≤ n → length ys ≤ m → flat level n ys ≡ flat level m ys) → length xs ≤ suc n → length xs ≤ suc m → flat level (suc n) xs ≡ flat level (suc m) xs
  unfolding flat
  fuel_step n m [] same a b = flat_nil (suc n) ∙ sym (flat_nil (suc m))
  fuel_step n m (x ∷ xs) same a b =
      let f = front_fits (x ∷ xs) (omega arith) in
      step_fuel (flat level n) (flat level m) level _ (front (pieces (x ∷ xs))) (λ ys l. same ys (omega arith) (omega arith))

  flat_fuel : (n m : ℕ) (xs : List ℕ) → length xs ≤ n → length xs ≤ m → flat level n xs ≡ flat level m xs
  flat_fuel zero m xs a b = flat-none zero m xs a
  flat_fuel (suc n) zero xs a b = flat-none (suc n) zero xs b
  flat_fuel (suc n) (suc m) xs a b = fuel_step n m xs (λ ys. flat_fuel n m ys) a b

  pub flatten_nil : flatten level [] ≡ []
  unfolding flatten
  flatten_nil = flat_nil 0

  pub flatten-step : (xs : List ℕ) → 0 < length xs → flatten level xs ≡ flat_step (flatten level) level (drop (size (front (pieces xs))) xs) (front (pieces xs))
  unfolding flatten flat
  flatten-step [] h = absurd (omega arith)
  flatten-step (x ∷ xs) h =
      let f = front_fits (x ∷ xs) h in
      step_fuel (flat level (length xs)) (λ ys. flat level (length ys) ys) level _ (front (pieces (x ∷ xs))) (λ ys l. flat_fuel (length xs) (length ys) ys (omega arith) (omega arith))
