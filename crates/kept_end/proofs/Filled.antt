-- A used pool that is filled: every place is in the run of one layer in use, and a run begins where those before it end. Assumes nothing.
use mathlib.Core.Path.{◌≡◌, refl, sym, ap, ◌∙◌}
use mathlib.Core.Bool.{Bool, true, cond, ◌&&◌}
use mathlib.Core.List.{List}
use Prim.Native.Nat.{ℕ, zero, suc, ◌+◌, ◌-◌, ◌≤◌, ◌<◌, min}
use native.Mathlib.Nat.{le_refl}
use native.Mathlib.Omega.{arith}
use lib.Dec.{eqb, ltb, leb}
use borrow.Author.Tests.{eqb-true, eqb-false, ltb-true, ltb-false, leb-true, leb-false}
use Rattle.laws.specs.Sums.{sum_below, bit, tally}
use Rattle.laws.proofs.Bools.{split, either, and_l, and_r, both}
use Rattle.laws.proofs.Sums.{bit_yes, bit_no, bit-few, sum_same, sum_none, tally_find}
use Rattle.access.specs.Limits.{max_layers}
use Rattle.tables.specs.Layers.{layer_first, layer_count}
use Rattle.sound_layers.proofs.Facts.{Layers}
use Rattle.kept_domains.proofs.Layers.{runs_in_pool}

-- ---- double sums
module _ (g : ℕ → ℕ → ℕ) where
  sum_add : (f h : ℕ → ℕ) (n : ℕ) → sum_below (λ i. f i + h i) n ≡ sum_below f n + sum_below h n
  unfolding sum_below
  sum_add f h zero = refl
  sum_add f h (suc n) = let a = sum_add f h n in omega arith

  sum_swap : (n m : ℕ) → sum_below (λ i. sum_below (g i) m) n ≡ sum_below (λ j. sum_below (λ i. g i j) n) m
  unfolding sum_below
  sum_swap zero m = sym (sum_none (λ j. 0) m (λ j h. refl))
  sum_swap (suc n) m = let a = sum_swap n m in let b = sum_add (λ j. sum_below (λ i. g i j) n) (g n) m in omega arith

-- at most one passes
tally_one : (p : ℕ → Bool) (n : ℕ) → ((i j : ℕ) → i < n → j < n → p i ≡ true → p j ≡ true → i ≡ j) → tally p n ≤ 1
unfolding sum_below
tally_one p zero f = omega arith
tally_one p (suc n) f = split (p n)
    (λ q.
    let a = sum_none (λ i. bit (p i)) n (λ i h. bit_no (p i) (split (p i) (λ r. let e = f i n (omega arith) (le_refl (suc n)) r q in absurd (omega arith)) (λ r. r))) in
    let b = bit-few (p n) in
    omega arith)
    (λ q. let a = tally_one p n (λ i j h k. f i j (omega arith) (omega arith)) in let b = bit_no (p n) q in omega arith)

-- none above 1, and as much as there are: each is 1
sum_few : (f : ℕ → ℕ) (n : ℕ) → ((i : ℕ) → i < n → f i ≤ 1) → sum_below f n ≤ n
unfolding sum_below
sum_few f zero h = omega arith
sum_few f (suc n) h = let a = sum_few f n (λ i k. h i (omega arith)) in let b = h n (le_refl (suc n)) in omega arith

ones : (f : ℕ → ℕ) (n : ℕ) → ((i : ℕ) → i < n → f i ≤ 1) → sum_below f n ≡ n → (i : ℕ) → i < n → f i ≡ 1
unfolding sum_below
ones f zero h e i k = absurd (omega arith)
ones f (suc n) h e i k =
    let a = sum_few f n (λ j c. h j (omega arith)) in
    let b = h n (le_refl (suc n)) in
    split (eqb i n)
    (λ q. let z = eqb-true i n q in rw z (omega arith))
    (λ q. let d = eqb-false i n q in ones f n (λ j c. h j (omega arith)) (omega arith) i (omega arith))

sum_ones : (f : ℕ → ℕ) (n : ℕ) → ((i : ℕ) → i < n → f i ≡ 1) → sum_below f n ≡ n
unfolding sum_below
sum_ones f zero h = refl
sum_ones f (suc n) h = let a = sum_ones f n (λ i k. h i (omega arith)) in let b = h n (le_refl (suc n)) in omega arith

-- ---- one run: how many of the first n places are in it
abbrev inside : ℕ → ℕ → ℕ → Bool
inside first count p = leb first p && ltb p (first + count)

pub inside-at : (first count p : ℕ) → inside first count p ≡ true → (first ≤ p) × (p < first + count)
inside-at first count p h = (leb-true first p (and_l (leb first p) (ltb p (first + count)) h), ltb-true p (first + count) (and_r (leb first p) (ltb p (first + count)) h))

run_tally : (first count n : ℕ) → tally (inside first count) n ≡ min n (first + count) - min n first
unfolding sum_below
run_tally first count zero = omega arith
run_tally first count (suc n) =
    let a = run_tally first count n in
    split (leb first n)
    (λ q.
    let x = leb-true first n q in
    split (ltb n (first + count))
    (λ r. let y = ltb-true n (first + count) r in let b = bit_yes (inside first count n) (both (leb first n) (ltb n (first + count)) q r) in omega arith)
    (λ r. let y = ltb-false n (first + count) r in let b = bit_no (inside first count n) (rw (q, r) refl) in omega arith))
    (λ q. let x = leb-false first n q in let b = bit_no (inside first count n) (rw q refl) in omega arith)

-- ---- sound layers
module _ (es : List ℕ) (next level : ℕ) (ls ps : List ℕ) (used taken : ℕ) (Z : Layers es next level ls ps used taken) where
  -- place p is in the run of layer l
  abbrev pub in_run : ℕ → ℕ → Bool
  in_run p l = inside (layer_first ls l) (layer_count ls l) p

  abbrev covers : ℕ → ℕ
  covers p = tally (in_run p) max_layers

  covers_once : (p : ℕ) → covers p ≤ 1
  covers_once p = tally_one (in_run p) max_layers (λ i j h k q r.
      split (eqb i j) (eqb-true i j)
      (λ z.
      let a = inside-at (layer_first ls i) (layer_count ls i) p q in
      let b = inside-at (layer_first ls j) (layer_count ls j) p r in
      absurd (either (Z.apart i j h k (eqb-false i j z)) (λ s. omega arith) (λ s. omega arith))))

  -- the places below n, each counted as often as runs cover it
  covered : (n : ℕ) → sum_below covers n ≡ sum_below (λ l. min n (layer_first ls l + layer_count ls l) - min n (layer_first ls l)) max_layers
  covered n =
      sym (sum_swap (λ l p. bit (in_run p l)) max_layers n)
      ∙ sum_same (λ l. tally (λ p. in_run p l) n) (λ l. min n (layer_first ls l + layer_count ls l) - min n (layer_first ls l)) max_layers (λ l h. run_tally (layer_first ls l) (layer_count ls l) n)

  all_covered : sum_below covers taken ≡ taken
  all_covered =
      covered taken
      ∙ sum_same (λ l. min taken (layer_first ls l + layer_count ls l) - min taken (layer_first ls l)) (layer_count ls) max_layers (λ l h. let i = runs_in_pool Z l h in omega arith)
      ∙ sym Z.filled

  covers_one : (p : ℕ) → p < taken → covers p ≡ 1
  covers_one = ones covers taken (λ p h. covers_once p) all_covered

  -- document 02, W13: "a used pool filled by the runs"
  pub place-filled : (p : ℕ) → p < taken → (l : ℕ) × (l < max_layers) × (in_run p l ≡ true)
  place-filled p h = tally_find (in_run p) max_layers (λ z. let o = covers_one p h in omega arith)

  -- the rules of the layers whose run begins before place p
  abbrev pub runs_before : ℕ → ℕ
  runs_before p = sum_below (λ l. cond (ltb (layer_first ls l) p) (layer_count ls l) 0) max_layers

  -- a run begins where those before it end
  pub run_begins : (m : ℕ) → m < max_layers → (layer_count ls m ≡ 0 → ⊥) → layer_first ls m ≡ runs_before (layer_first ls m)
  run_begins m h some =
      let f = layer_first ls m in
      let i = runs_in_pool Z m h in
      let a : sum_below covers f ≡ f = sum_ones covers f (λ p k. covers_one p (omega arith)) in
      sym a ∙ covered f
      ∙ sum_same (λ l. min f (layer_first ls l + layer_count ls l) - min f (layer_first ls l)) (λ l. cond (ltb (layer_first ls l) f) (layer_count ls l) 0) max_layers
      (λ l k. split (ltb (layer_first ls l) f)
      (λ q.
      let x : layer_first ls l < f = ltb-true (layer_first ls l) f q in
      let d : (l ≡ m → ⊥) = λ e. let z : layer_first ls l ≡ f = ap (layer_first ls) e in omega arith in
      rw q (either (Z.apart l m k h d) (λ s. omega arith) (λ s. absurd (omega arith))))
      (λ q. let x : f ≤ layer_first ls l = ltb-false (layer_first ls l) f q in rw q (omega arith)))
