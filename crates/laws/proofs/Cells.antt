-- Laws of cells: a read after a write, a part of a table, cells that are all zero. Assumes nothing.
use mathlib.Core.Path.{◌≡◌, sym, ap, ◌∙◌}
use mathlib.Core.Bool.{true}
use mathlib.Core.List.{List, ◌++◌, append-nil}
use Prim.Native.Nat.{ℕ, suc, ◌+◌, ◌-◌, ◌*◌, ◌/◌, ◌≤◌, ◌<◌, min}
use native.Mathlib.Nat.{mul-le-mul_left, mul-suc, mul_comm, zero-mul, le-div_iff_mul-le, div-lt_iff_lt-mul}
use native.Mathlib.Omega.{arith}
use lib.Dec.{eqb, ltb}
use lib.ListN.{length, get_or, drop, set, replicate, length-set, length-take, length-drop, length-replicate, get_or-replicate, get_or-eq_default}
use lib.Seq.{get_or-set_same, get_or-set_other, get_or-take, get_or-drop, ext_get_or, set_out, drop-length}
use borrow.Author.Tests.{eqb-true, eq-eqb, ltb-true, ltb-false}
use Rattle.laws.specs.Cells.{cell, put_cell, part, zeros}
use Rattle.laws.proofs.Bools.{split}
use Rattle.laws.proofs.Tests.{all-at, all_of_lem}

-- past the end a table reads as 0
pub past : (xs : List ℕ) (n : ℕ) → length xs ≤ n → 0 ≡ get_or xs n 0
past xs n h = sym (get_or-eq_default xs 0 h)

-- and a write there changes nothing
pub unset : (xs : List ℕ) (n v : ℕ) → length xs ≤ n → xs ≡ set xs n v
unset xs n v h = sym (set_out xs n v h)

-- ---- rows: a cell of another row, or another cell of the same row, is another cell
row_below : (w i j k l : ℕ) → i < j → k < w → w * i + k < w * j + l
row_below w i j k l h a =
    let e : w * suc i ≡ w * i + w = mul-suc w i in
    let m : w * suc i ≤ w * j = mul-le-mul_left w h in
    omega arith

-- where row i starts in a table of n cells
pub row_in : (n w i : ℕ) → 0 < w → i ≤ n / w → w * i ≤ n
row_in n w i p h = rw (mul_comm w i) ((le-div_iff_mul-le p).0 h)

pub row_out : (n w i : ℕ) → 0 < w → n / w < i → n < w * i
row_out n w i p h = rw (mul_comm w i) ((div-lt_iff_lt-mul p).0 h)

pub no_rows : (w i n : ℕ) → w ≡ 0 → 0 ≡ min (w * i) n
no_rows w i n e = let z : w * i ≡ 0 = rw e (zero-mul i) in omega arith

pub other_row : (w i j k l : ℕ) → (i ≡ j → ⊥) → k < w → l < w → w * i + k ≡ w * j + l → ⊥
other_row w i j k l d a b e = split (ltb i j)
    (λ q. let h = row_below w i j k l (ltb-true i j q) a in omega arith)
    (λ q. let g : j ≤ i = ltb-false i j q in let h = row_below w j i l k (omega arith) b in omega arith)

module _ (xs : List ℕ) (w i k v : ℕ) where
  -- the cell itself
  pub cell_put : w * i + k < length xs → cell (put_cell xs w i k v) w i k ≡ v
  cell_put h = get_or-set_same xs (w * i + k) v 0 h

  -- another cell of the row
  pub cell_put_beside : (l : ℕ) → (l ≡ k → ⊥) → cell (put_cell xs w i k v) w i l ≡ cell xs w i l
  cell_put_beside l d = get_or-set_other xs (w * i + k) (w * i + l) v 0 (λ e. d (omega arith))

  -- a cell of another row
  pub cell_put_other : (j l : ℕ) → (j ≡ i → ⊥) → k < w → l < w → cell (put_cell xs w i k v) w j l ≡ cell xs w j l
  cell_put_other j l d a b = get_or-set_other xs (w * i + k) (w * j + l) v 0 (other_row w j i l k d b a)

  pub length-put_cell : length (put_cell xs w i k v) ≡ length xs
  length-put_cell = length-set xs (w * i + k) v

-- ---- a part of a table
module _ (xs : List ℕ) (from to : ℕ) where
  pub part_at : (i : ℕ) → i < to - from → get_or (part xs from to) i 0 ≡ get_or xs (from + i) 0
  part_at i h = get_or-take (to - from) (drop from xs) i 0 h ∙ get_or-drop from xs i 0

  pub part_length : to ≤ length xs → length (part xs from to) ≡ to - from
  part_length h = length-take (to - from) (drop from xs) ∙ ap (min (to - from)) (length-drop from xs) ∙ (omega arith)

  -- no more cells than the table
  pub part-short : length (part xs from to) ≤ length xs
  part-short = let t = length-take (to - from) (drop from xs) in let d = length-drop from xs in omega arith

-- k cells past a row's start, neither past the table's end
pub past-start : (m k n s h : ℕ) → s ≡ min m n → h ≡ min k (n - s) → s + h ≡ min (m + k) n
past-start m k n s h p q = omega arith

-- a part, as much of it as the table has
part-size : (xs : List ℕ) (from more : ℕ) → length (part xs from (from + more)) ≡ min more (length xs - from)
part-size xs from more =
    let e : from + more - from ≡ more = omega arith in
    length-take (from + more - from) (drop from xs) ∙ ap (min (from + more - from)) (length-drop from xs) ∙ ap (λ (n : ℕ). min n (length xs - from)) e

part-cell : (xs : List ℕ) (from more i : ℕ) → i < length (part xs from (from + more)) → get_or (part xs from (from + more)) i 0 ≡ get_or xs (from + i) 0
part-cell xs from more i h = part_at xs from (from + more) i (let k = part-size xs from more in omega arith)

pub part_cut : (xs : List ℕ) (a b from more : ℕ) → from ≡ min a (length xs) → more ≡ min b (length xs - from) → part xs from (from + more) ≡ part xs a (a + b)
part_cut xs a b from more p q =
    let k = part-size xs from more in
    let l = part-size xs a b in
    let same : length (part xs from (from + more)) ≡ length (part xs a (a + b)) = omega arith in
    ext_get_or 0 (part xs from (from + more)) (part xs a (a + b)) same
    (λ i h.
    let e : from ≡ a = omega arith in
    part-cell xs from more i h ∙ ap (λ (n : ℕ). get_or xs (n + i) 0) e ∙ sym (part-cell xs a b i (rw same at h)))

-- ---- cells that are all zero
pub zeros-at : (xs : List ℕ) → zeros xs ≡ true → (i : ℕ) → get_or xs i 0 ≡ 0
unfolding zeros
zeros-at xs h i = split (ltb i (length xs))
    (λ q. eqb-true (get_or xs i 0) 0 (all-at (λ j. eqb (get_or xs j 0) 0) (length xs) i h (ltb-true i (length xs) q)))
    (λ q. get_or-eq_default xs 0 (ltb-false i (length xs) q))

pub zeros_of : (xs : List ℕ) → ((i : ℕ) → i < length xs → get_or xs i 0 ≡ 0) → zeros xs ≡ true
unfolding zeros
zeros_of xs f = all_of_lem (λ j. eqb (get_or xs j 0) 0) (length xs) (λ i h. eq-eqb (get_or xs i 0) 0 (f i h))

-- zeros in a part are zeros at its places
pub zeros-part-at : (xs : List ℕ) (from to : ℕ) → zeros (part xs from to) ≡ true → (n : ℕ) → from ≤ n → n < to → get_or xs n 0 ≡ 0
zeros-part-at xs from to h n a b =
    let e : from + (n - from) ≡ n = omega arith in
    sym (ap (λ (m : ℕ). get_or xs m 0) e) ∙ sym (part_at xs from to (n - from) (omega arith)) ∙ zeros-at (part xs from to) h (n - from)

pub zeros_part_of : (xs : List ℕ) (from to : ℕ) → ((n : ℕ) → from ≤ n → n < to → get_or xs n 0 ≡ 0) → zeros (part xs from to) ≡ true
zeros_part_of xs from to f = zeros_of (part xs from to) (λ i h.
    split (ltb i (to - from))
    (λ q. let l = ltb-true i (to - from) q in part_at xs from to i l ∙ f (from + i) (omega arith) (omega arith))
    (λ q. let g : to - from ≤ i = ltb-false i (to - from) q in
    absurd (let z = length-take (to - from) (drop from xs) in omega arith)))

-- a table of zeros
pub get_or-zeros : (n i : ℕ) → get_or {A = ℕ} (replicate n 0) i 0 ≡ 0
get_or-zeros n i = split (ltb i n) (λ q. get_or-replicate n i 0 0 (ltb-true i n q))
    (λ q. get_or-eq_default (replicate n 0) 0 (let e = length-replicate {A = ℕ} n 0 in let g = ltb-false i n q in omega arith))

-- a table that was cleared to its end is one
pub cleared : (xs : List ℕ) (n : ℕ) → n ≡ length xs → replicate n 0 ++ drop n xs ≡ replicate (length xs) 0
cleared xs n e = rw (e, drop-length) (append-nil (replicate (length xs) 0))
