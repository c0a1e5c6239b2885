-- Laws of the tests over numbers and lists, for loops that make them and for whoever relies on them. Assumes nothing.
use mathlib.Core.Path.{◌≡◌, refl, sym, subst}
use mathlib.Core.Bool.{Bool, true, false, false≢true}
use mathlib.Core.List.{List, [], ◌∷◌}
use Prim.Native.Nat.{ℕ, zero, suc, ◌+◌, ◌≤◌, ◌<◌}
use native.Mathlib.Nat.{not-suc-le-zero, le_refl}
use native.Mathlib.Numerals.{add-one}
use native.Mathlib.Omega.{arith}
use lib.Dec.{eqb, ltb}
use lib.ListN.{get_or}
use borrow.Author.Tests.{eqb-true, eq-eqb, eqb-false, ltb-true, ltb-false}
use Rattle.laws.specs.Tests.{all_below, any_below, first_from, first_below, elem, any, all_of}
use Rattle.laws.proofs.Bools.{and_l, and_r, both, or_l, or_r, or_cases, or_left, or_right, nor, split, either, clash}

-- a number that is none of those below a bound is past them, counted up one by one
pub over_none : (n : ℕ) → 0 ≤ n
over_none n = omega arith

pub over : (k : ℕ) {n : ℕ} → k ≤ n → (n ≡ k → ⊥) → k + 1 ≤ n
over k h d = omega arith

-- ---- every number below a bound
module _ (p : ℕ → Bool) where
  -- a loop's start
  pub all_none : all_below p 0 ≡ true
  unfolding all_below
  all_none = refl

  -- a loop's turn
  pub all_more : (i : ℕ) → all_below p i ≡ true → p i ≡ true → all_below p (i + 1) ≡ true
  unfolding all_below
  all_more i h k = rw (add-one) (both (all_below p i) (p i) h k)

  -- a loop's end
  pub all_done : (n i : ℕ) → i ≤ n → n ≤ i → all_below p i ≡ true → true ≡ all_below p n
  all_done n i a b h = let e : n ≡ i = omega arith in rw e (sym h)

  pub all-at : (n i : ℕ) → all_below p n ≡ true → i < n → p i ≡ true
  unfolding all_below
  all-at zero i h k = absurd (not-suc-le-zero k)
  all-at (suc n) i h k = split (eqb i n)
      (λ q. subst (λ (j : ℕ). p j ≡ true) (sym (eqb-true i n q)) (and_r (all_below p n) (p n) h))
      (λ q. all-at n i (and_l (all_below p n) (p n) h) (let d : (i ≡ n → ⊥) = eqb-false i n q in omega arith))

  -- a loop that stops at a number that fails
  pub all_fails : (n i : ℕ) → i < n → p i ≡ false → false ≡ all_below p n
  all_fails n i k h = split (all_below p n) (λ e. clash (p i) (all-at n i e k) h) (λ e. sym e)

  pub all_of_lem : (n : ℕ) → ((i : ℕ) → i < n → p i ≡ true) → all_below p n ≡ true
  unfolding all_below
  all_of_lem zero f = refl
  all_of_lem (suc n) f = both (all_below p n) (p n) (all_of_lem n (λ i h. f i (omega arith))) (f n (le_refl (suc n)))

-- ---- some number below a bound
module _ (p : ℕ → Bool) where
  pub any-start : any_below p 0 ≡ false
  unfolding any_below
  any-start = refl

  pub any_more : (i : ℕ) → any_below p i ≡ false → p i ≡ false → any_below p (i + 1) ≡ false
  unfolding any_below
  any_more i h k = rw (add-one) (nor (any_below p i) (p i) h k)

  pub any-done : (n i : ℕ) → i ≤ n → n ≤ i → any_below p i ≡ false → false ≡ any_below p n
  any-done n i a b h = let e : n ≡ i = omega arith in rw e (sym h)

  pub none-at : (n i : ℕ) → any_below p n ≡ false → i < n → p i ≡ false
  unfolding any_below
  none-at zero i h k = absurd (not-suc-le-zero k)
  none-at (suc n) i h k = split (eqb i n)
      (λ q. subst (λ (j : ℕ). p j ≡ false) (sym (eqb-true i n q)) (or_r (any_below p n) (p n) h))
      (λ q. none-at n i (or_l (any_below p n) (p n) h) (let d : (i ≡ n → ⊥) = eqb-false i n q in omega arith))

  -- a loop that stops at a number that passes
  pub any_found : (n i : ℕ) → i < n → p i ≡ true → true ≡ any_below p n
  any_found n i k h = split (any_below p n) (λ e. sym e) (λ e. clash (p i) h (none-at n i e k))

  pub none_of : (n : ℕ) → ((i : ℕ) → i < n → p i ≡ false) → any_below p n ≡ false
  unfolding any_below
  none_of zero f = refl
  none_of (suc n) f = nor (any_below p n) (p n) (none_of n (λ i h. f i (omega arith))) (f n (le_refl (suc n)))

-- ---- the first number that passes
module _ (p : ℕ → Bool) where
  pub from_passes : (n i : ℕ) → first_from p n i < i + n → p (first_from p n i) ≡ true
  unfolding first_from
  from_passes zero i h = absurd (omega arith)
  from_passes (suc n) i h = split (p i) (λ q. rw q q) (λ q. rw q (from_passes n (suc i) (let k = rw q at h in omega arith)))

  from_least : (n i j : ℕ) → i ≤ j → j < first_from p n i → p j ≡ false
  unfolding first_from
  from_least zero i j a h = absurd (omega arith)
  from_least (suc n) i j a h = split (p i)
      (λ q. absurd (let k = rw q at h in omega arith))
      (λ q. split (eqb i j) (λ e. rw (← eqb-true i j e) q)
      (λ e. from_least n (suc i) j (let d : (i ≡ j → ⊥) = eqb-false i j e in omega arith) (rw q at h)))

  pub from_past : (n i : ℕ) → i ≤ first_from p n i
  unfolding first_from
  from_past zero i = omega arith
  from_past (suc n) i = split (p i) (λ q. rw q (omega arith)) (λ q. rw q (let k = from_past n (suc i) in omega arith))

  pub from_bound : (n i : ℕ) → first_from p n i ≤ i + n
  unfolding first_from
  from_bound zero i = omega arith
  from_bound (suc n) i = split (p i) (λ q. rw q (omega arith)) (λ q. rw q (let k = from_bound n (suc i) in omega arith))

  pub first_passes : (n : ℕ) → first_below p n < n → p (first_below p n) ≡ true
  unfolding first_below
  first_passes n h = from_passes n 0 (omega arith)

  pub first_least : (n j : ℕ) → j < first_below p n → p j ≡ false
  unfolding first_below
  first_least n j h = from_least n 0 j (omega arith) h

  pub first_bound : (n : ℕ) → first_below p n ≤ n
  unfolding first_below
  first_bound n = let h = from_bound n 0 in omega arith

  -- a search that found i, all below it having failed
  pub first_found : (n i : ℕ) → i < n → any_below p i ≡ false → p i ≡ true → i ≡ first_below p n
  first_found n i k un h =
      let f : ℕ = first_below p n in
      split (ltb i f) (λ q. clash (p i) h (first_least n i (ltb-true i f q)))
      (λ q. let le : f ≤ i = ltb-false i f q in
      split (ltb f i)
      (λ r. clash (p f) (first_passes n (omega arith)) (none-at p i f un (ltb-true f i r)))
      (λ r. let ge : i ≤ f = ltb-false f i r in omega arith))

  -- a search that found none
  pub first-none : (n i : ℕ) → i ≤ n → n ≤ i → any_below p i ≡ false → i ≡ first_below p n
  first-none n i a b un =
      let f : ℕ = first_below p n in
      let le : f ≤ n = first_bound n in
      split (ltb f n)
      (λ r. clash (p f) (first_passes n (ltb-true f n r)) (none-at p i f un (let l = ltb-true f n r in omega arith)))
      (λ r. let ge : n ≤ f = ltb-false f n r in omega arith)

-- ---- the elements of a list
pub any_find : (p : ℕ → Bool) (xs : List ℕ) → any p xs ≡ true → (n : ℕ) × (elem n xs ≡ true) × (p n ≡ true)
unfolding any elem
any_find p [] h = absurd (false≢true h)
any_find p (x ∷ xs) h = either (or_cases (p x) (any p xs) h)
    (λ q. (x, or_left (eqb x x) (elem x xs) (eq-eqb x x refl), q))
    (λ q. let s = any_find p xs q in (s.0, or_right (eqb s.0 x) (elem s.0 xs) s.1, s.2))

pub any_at : (p : ℕ → Bool) (xs : List ℕ) (n : ℕ) → elem n xs ≡ true → p n ≡ true → any p xs ≡ true
unfolding any elem
any_at p [] n m h = absurd (false≢true m)
any_at p (x ∷ xs) n m h = either (or_cases (eqb n x) (elem n xs) m)
    (λ q. or_left (p x) (any p xs) (subst (λ (k : ℕ). p k ≡ true) (eqb-true n x q) h))
    (λ q. or_right (p x) (any p xs) (any_at p xs n q h))

pub any_none : (p : ℕ → Bool) (xs : List ℕ) → any p xs ≡ false → (n : ℕ) → elem n xs ≡ true → p n ≡ false
any_none p xs h n m = split (p n) (λ q. clash (any p xs) (any_at p xs n m q) h) (λ q. q)

-- ---- several conditions at once

-- condition k of a list that all hold
pub all_of-at : (bs : List Bool) (k : ℕ) → all_of bs ≡ true → get_or bs k true ≡ true
unfolding all_of
all_of-at [] zero e = refl
all_of-at [] (suc k) e = refl
all_of-at (b ∷ []) zero e = e
all_of-at (b ∷ []) (suc k) e = refl
all_of-at (b ∷ c ∷ bs) zero e = split b (λ q. q) (λ q. absurd (false≢true (rw q at e)))
all_of-at (b ∷ c ∷ bs) (suc k) e = split b (λ q. all_of-at (c ∷ bs) k (rw q at e)) (λ q. absurd (false≢true (rw q at e)))

-- a proof of each condition in turn, closed by `met`
pub data Met : List Bool → Type 0 where
  met : Met []
  ◌also◌ : {b : Bool} {bs : List Bool} → b ≡ true → Met bs → Met (b ∷ bs)

infixr 60 ◌also◌
pub all_of_of : {bs : List Bool} → Met bs → all_of bs ≡ true
unfolding all_of
all_of_of met = refl
all_of_of (p also met) = p
all_of_of (p also (q also m)) = rw p (all_of_of (q also m))

-- a condition that fails
pub all_of_no : (bs : List Bool) (k : ℕ) → get_or bs k true ≡ false → false ≡ all_of bs
all_of_no bs k h = split (all_of bs) (λ e. clash (get_or bs k true) (all_of-at bs k e) h) (λ e. sym e)
