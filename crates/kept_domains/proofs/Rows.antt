-- Laws of rows and of parts of a table: a row that a write leaves alone, a row past the end, a part that another repeats. Assumes nothing.
use mathlib.Core.Path.{◌≡◌, sym, ◌∙◌}
use mathlib.Core.Bool.{true, false}
use mathlib.Core.List.{List}
use Prim.Native.Nat.{ℕ, suc, ◌+◌, ◌*◌, ◌≤◌, ◌<◌}
use native.Mathlib.Nat.{mul-le-mul_left, mul-suc}
use native.Mathlib.Omega.{arith}
use lib.Dec.{eqb, ltb}
use lib.ListN.{length, get_or, set, length-set, get_or-eq_default}
use lib.Seq.{ext_get_or, get_or-set_same, get_or-set_other}
use borrow.Author.Tests.{eqb-false, ltb-true}
use Rattle.laws.specs.Cells.{cell, put_cell, part}
use Rattle.laws.proofs.Cells.{cell_put_other, part_at, part_length}

-- row i of a table lies in it, cell by cell
abbrev pub HasRow : List ℕ → ℕ → ℕ → Type 0
HasRow xs w i = (k : ℕ) → ltb k w ≡ true → w * i + k < length xs

pub has_row : (xs : List ℕ) (w n i : ℕ) → length xs ≡ w * n → i < n → HasRow xs w i
has_row xs w n i e h = λ k q.
    let l = ltb-true k w q in
    let m : w * suc i ≤ w * n = mul-le-mul_left w h in
    let s : w * suc i ≡ w * i + w = mul-suc w i in
    omega arith

-- what is read from a row that was written cell by cell: rules to search with, the cells' numbers being numerals
pub read_beside : (xs : List ℕ) (m k l v : ℕ) → eqb l k ≡ false → get_or (set xs (m + k) v) (m + l) 0 ≡ get_or xs (m + l) 0
read_beside xs m k l v q = get_or-set_other xs (m + k) (m + l) v 0 (let d = eqb-false l k q in λ e. omega arith)

pub read_here : (xs : List ℕ) (m k v : ℕ) → m + k < length xs → get_or (set xs (m + k) v) (m + k) 0 ≡ v
read_here xs m k v h = get_or-set_same xs (m + k) v 0 h

pub ruleset reads = (read_beside, read_here, length-set)

-- row i of xs stands in ys
abbrev pub SameRow : List ℕ → List ℕ → ℕ → ℕ → Type 0
SameRow xs ys w i = (k : ℕ) → k < w → cell ys w i k ≡ cell xs w i k

-- a write to another row
pub row_beside : (xs : List ℕ) (w i k v j : ℕ) → k < w → (j ≡ i → ⊥) → SameRow xs (put_cell xs w i k v) w j
row_beside xs w i k v j a d = λ l b. cell_put_other xs w i k v j l d a b

-- past the last of n rows
pub row_past : (xs : List ℕ) (w n i k : ℕ) → length xs ≡ w * n → n ≤ i → cell xs w i k ≡ 0
row_past xs w n i k e h = get_or-eq_default xs 0 (let m : w * n ≤ w * i = mul-le-mul_left w h in omega arith)

-- n cells of ys from b on are those of xs from a on
pub part_moved : (xs ys : List ℕ) (a b n : ℕ) → a + n ≤ length xs → b + n ≤ length ys → ((i : ℕ) → i < n → get_or ys (b + i) 0 ≡ get_or xs (a + i) 0) → part ys b (b + n) ≡ part xs a (a + n)
part_moved xs ys a b n p q f =
    let l : length (part ys b (b + n)) ≡ n = part_length ys b (b + n) q ∙ (omega arith) in
    let m : length (part xs a (a + n)) ≡ n = part_length xs a (a + n) p ∙ (omega arith) in
    ext_get_or 0 (part ys b (b + n)) (part xs a (a + n)) (l ∙ sym m)
    (λ i h. part_at ys b (b + n) i (omega arith) ∙ f i (omega arith) ∙ sym (part_at xs a (a + n) i (omega arith)))
