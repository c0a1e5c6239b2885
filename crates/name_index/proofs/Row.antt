-- The row of a name, and the name in it. Assumes nothing.
use mathlib.Core.Path.{◌≡◌, refl, sym, ◌∙◌}
use mathlib.Core.Bool.{true, false}
use mathlib.Core.List.{List, ◌∷◌}
use Prim.Native.Nat.{ℕ, ◌+◌, ◌*◌, ◌≤◌}
use native.Mathlib.Numerals.{add-one}
use native.Mathlib.Omega.{arith}
use lib.Dec.{ltb}
use lib.ListN.{length, get_or, set, replicate, length-replicate, get_or-eq_default}
use lib.Seq.{ext_get_or, take_all}
use borrow.Author.Tests.{ltb-true, ltb-false}
use Rattle.laws.specs.Cells.{copied}
use Rattle.laws.proofs.Bools.{split}
use Rattle.laws.proofs.Cells.{get_or-zeros}
use Rattle.laws.proofs.Copies.{copied_more, length-copied, copied_in, copied-after}
use Rattle.names.specs.Names.{max_name, name_width, bad_bytes, row_at, name_of, put_name, name_sound}
use Rattle.names.proofs.Rows.{length_put, name_put, sound_put}
use Rattle.name_index.specs.Row.{own_row}

abbrev blank : List ℕ
blank = replicate name_width 0

wide : length blank ≡ name_width
wide = length-replicate {A = ℕ} name_width 0

module _ (n : List ℕ) where
  pub own-length : length (own_row n) ≡ name_width
  unfolding own_row
  own-length = length_put blank 0 n ∙ wide

  -- it is the row of its table
  own_is : row_at (own_row n) 0 ≡ own_row n
  unfolding row_at
  own_is = take_all name_width (own_row n) (let w = own-length in omega arith)

  -- the code writes the length, then byte by byte
  pub own-start : set blank 0 (length n) ≡ copied blank 0 (length n ∷ n) 1
  unfolding copied
  own-start = refl

  pub own_more : (i : ℕ) {row : List ℕ} → row ≡ copied blank 0 (length n ∷ n) (i + 1) → set row (i + 1) (get_or n i 0) ≡ copied blank 0 (length n ∷ n) (i + 1 + 1)
  own_more i {row} h =
      let o : 0 + (i + 1) ≡ i + 1 = omega arith in
      copied_more blank 0 (length n ∷ n) (i + 1) row (set row (i + 1) (get_or n i 0)) h (rw (o, add-one) refl)

  fits : name_width * 0 + name_width ≤ length blank
  fits = let w = wide in omega arith

  module _ (short : length n ≤ max_name) where
    pub own_name : name_of (own_row n) ≡ n
    unfolding own_row
    own_name = rw own_is at (name_put blank 0 n fits short)

    pub own-sound : bad_bytes n ≡ false → name_sound (own_row n) ≡ true
    unfolding own_row
    own-sound b = rw own_is at (sound_put blank 0 n fits short b)

    -- and zeros stand behind them
    pub own-written : (i : ℕ) → length n ≤ i → i ≤ length n → copied blank 0 (length n ∷ n) (i + 1) ≡ own_row n
    unfolding own_row put_name
    own-written i a b =
        let src = length n ∷ n in
        let w = wide in
        let s : length (copied blank 0 src (i + 1)) ≡ name_width = length-copied blank 0 src (i + 1) ∙ wide in
        ext_get_or 0 (copied blank 0 src (i + 1)) (copied blank 0 src name_width) (s ∙ sym (length-copied blank 0 src name_width ∙ wide)) (λ k l.
        let o : 0 + k ≡ k = omega arith in
        let whole = rw o at (copied_in blank 0 src name_width k (omega arith) (omega arith)) in
        split (ltb k (i + 1))
        (λ q. let h = ltb-true k (i + 1) q in rw o at (copied_in blank 0 src (i + 1) k h (omega arith)) ∙ sym whole)
        (λ q.
        let h = ltb-false k (i + 1) q in
        let e : length src ≤ k = omega arith in
        copied-after blank 0 src (i + 1) k (omega arith) ∙ get_or-zeros name_width k ∙ sym (whole ∙ get_or-eq_default src 0 e)))
