-- Two entries of one directory with one name have one row; and what the test of every entry tells of all names. Assumes nothing.
use mathlib.Core.Path.{◌≡◌, refl, sym, ◌∙◌}
use mathlib.Core.Bool.{Bool, true, false, cond, not, ◌&&◌}
use mathlib.Core.List.{List}
use Prim.Native.Nat.{ℕ, ◌+◌, ◌*◌, ◌≤◌, ◌<◌}
use native.Mathlib.Omega.{arith}
use lib.Dec.{eqb}
use lib.ListN.{length}
use borrow.Author.Tests.{eqb-true, eq-eqb, not-true}
use Rattle.laws.specs.Tests.{all_below}
use Rattle.laws.specs.Cells.{zeros}
use Rattle.laws.proofs.Bools.{split, and_l, and_r, both, not_of_true, not_of_false, cond_then}
use Rattle.laws.proofs.Tests.{all-at, all_of_lem, all_done, all_fails, all_of_no, all_of_of, met, ◌also◌}
use Rattle.laws.proofs.Cells.{part_length}
use Rattle.access.specs.Limits.{max_entries}
use Rattle.tables.specs.Tables.{parent}
use Rattle.names.specs.Names.{name_width, row_at, name_at, is_named, name_sound, row_sound, twins, unlike, names_sound}
use Rattle.names.proofs.Bytes.{bytes_equal, bytes_same}
use Rattle.sound_names_rows.proofs.Form.{row_of_name}

module _ (es ns : List ℕ) where
  -- the row of an entry, as the code tests it
  pub row_is : {t n : Bool} (e : ℕ) → n ≡ is_named es e → t ≡ cond n (name_sound (row_at ns e)) (zeros (row_at ns e)) → t ≡ row_sound es ns e
  unfolding row_sound
  row_is e i h = rw i at h

  pub row_fails : {t : Bool} (e : ℕ) → t ≡ row_sound es ns e → not t ≡ true → (row_sound es ns e && unlike es ns e) ≡ false
  row_fails {t} e h k = rw (sym h ∙ not-true t k) refl

  -- an entry without a name has no twin
  pub free-unlike : (e : ℕ) → is_named es e ≡ false → unlike es ns e ≡ true
  unfolding unlike twins
  free-unlike e z = all_of_lem (λ f. not (twins es ns e f)) e (λ f k. rw z refl)

  -- ---- all entries
  pub all_sound : (e : ℕ) → length ns ≡ name_width * max_entries → e ≤ max_entries → max_entries ≤ e → all_below (row_sound es ns) e ≡ true → all_below (unlike es ns) e ≡ true → names_sound es ns ≡ true
  unfolding names_sound
  all_sound e w a b r u =
      all_of_of
      (eq-eqb (length ns) (name_width * max_entries) w
      also sym (all_done (row_sound es ns) max_entries e a b r)
      also sym (all_done (unlike es ns) max_entries e a b u)
      also met)

  pub unlike_fails : (e : ℕ) → e < max_entries → unlike es ns e ≡ false → names_sound es ns ≡ false
  unfolding names_sound
  unlike_fails e k h = sym (all_of_no _ 2 (sym (all_fails (unlike es ns) max_entries e k h)))

  pub one_fails : (e : ℕ) → e < max_entries → (row_sound es ns e && unlike es ns e) ≡ false → names_sound es ns ≡ false
  unfolding names_sound
  one_fails e k h = split (row_sound es ns e)
      (λ q. unlike_fails e k (rw q at h))
      (λ q. sym (all_of_no _ 1 (sym (all_fails (row_sound es ns) max_entries e k q))))

  -- ---- entry e, which has a name; the rows up to it are sound
  module _ (w : length ns ≡ name_width * max_entries) (e : ℕ) (small : e < max_entries) (l : is_named es e ≡ true) (rows : all_below (row_sound es ns) (e + 1) ≡ true) where
    row_long : (f : ℕ) → f < e + 1 → length (row_at ns f) ≡ name_width
    unfolding row_at
    row_long f k = part_length ns (name_width * f) (name_width * f + name_width) (omega arith) ∙ (omega arith)

    row_good : (f : ℕ) → f < e + 1 → is_named es f ≡ true → name_sound (row_at ns f) ≡ true
    unfolding row_sound
    row_good f k m = cond_then (is_named es f) _ _ m (all-at (row_sound es ns) (e + 1) f rows k)

    -- names that are equal stand in rows that are equal
    rows_of : (f : ℕ) → f < e → is_named es f ≡ true → name_at ns e ≡ name_at ns f → row_at ns e ≡ row_at ns f
    rows_of f k m q =
        let i : f < e + 1 = omega arith in
        let j : e < e + 1 = omega arith in
        row_of_name (row_at ns e) (row_at ns f) (row_long e j) (row_long f i) (row_good e j l) (row_good f i m) q

    twins_of : (f : ℕ) → is_named es f ≡ true → parent es e ≡ parent es f → row_at ns e ≡ row_at ns f → twins es ns e f ≡ true
    unfolding twins
    twins_of f m p q = both _ _ l (both _ _ m (both _ _ (eq-eqb (parent es e) (parent es f) p) (rw q (bytes_same (name_at ns f)))))

    -- another entry of the directory has its row
    pub twin_unlike : (f : ℕ) → f < e → is_named es f ≡ true → parent es e ≡ parent es f → row_at ns e ≡ row_at ns f → unlike es ns e ≡ false
    unfolding unlike
    twin_unlike f k m p q = sym (all_fails (λ f. not (twins es ns e f)) e f k (not_of_true (twins es ns e f) (twins_of f m p q)))

    -- none has
    pub none-unlike : ((f : ℕ) → f < e → is_named es f ≡ true → parent es e ≡ parent es f → row_at ns e ≡ row_at ns f → ⊥) → unlike es ns e ≡ true
    unfolding unlike twins
    none-unlike g = all_of_lem (λ f. not (twins es ns e f)) e (λ f k. split (twins es ns e f)
        (λ h.
        let h1 = and_r (is_named es e) _ h in
        let m = and_l (is_named es f) _ h1 in
        let h2 = and_r (is_named es f) _ h1 in
        let p = eqb-true (parent es e) (parent es f) (and_l (eqb (parent es e) (parent es f)) _ h2) in
        absurd (g f k m p (rows_of f k m (bytes_equal (name_at ns e) (name_at ns f) (and_r (eqb (parent es e) (parent es f)) _ h2)))))
        (λ h. not_of_false (twins es ns e f) h))

    pub row_own : row_sound es ns e ≡ true
    row_own = all-at (row_sound es ns) (e + 1) e rows (omega arith)
