-- The form of a row read by pairs is that of the definition. Assumes nothing.
use mathlib.Core.Path.{◌≡◌, refl, sym, ap, ◌∙◌}
use mathlib.Core.Bool.{true, false, not}
use mathlib.Core.List.{List, [], ◌∷◌}
use Prim.Native.Nat.{ℕ, zero, suc, ◌+◌, ◌-◌, ◌≤◌, ◌<◌}
use native.Mathlib.Nat.{zero-add}
use native.Mathlib.Omega.{arith}
use lib.Dec.{eqb, ltb}
use lib.ListN.{length, get_or, drop, length-take, length-drop, get_or-eq_default}
use lib.Seq.{get_or-take, get_or-drop, ext_get_or}
use borrow.Author.Tests.{eqb-true, eqb-false, eq-eqb, ne_eqb, leb-true, le-leb, ltb-true, ltb-false, not-true}
use Rattle.laws.specs.Tests.{elem}
use Rattle.laws.proofs.Bools.{split, clash, agree, either, and_l, and_r, both, or_l, or_r, or_cases, or_left, or_right, nor, not_of_false}
use Rattle.laws.proofs.Tests.{all-at, all_of_lem, all_of-at, all_of_of, met, ◌also◌}
use Rattle.laws.proofs.Cells.{zeros-at, zeros_of}
use Rattle.names.specs.Names.{max_name, name_width, slash, dot, same_bytes, bad_bytes, name_of, name_sound}
use Rattle.names.proofs.Bytes.{bytes_equal, bytes_same}
use Rattle.names.proofs.Paths.{Plain, plain}
use Rattle.sound_names_rows.specs.Form.{fitting, fitting_pairs, ends_at, is_dots, form_sound}

-- ---- what is in a list
none_is : (x : ℕ) (xs : List ℕ) → elem x xs ≡ false → (i : ℕ) → i < length xs → get_or xs i 0 ≡ x → ⊥
unfolding elem
none_is x [] h i l e = omega arith
none_is x (y ∷ ys) h zero l e = clash (eqb x y) (eq-eqb x y (sym e)) (or_l (eqb x y) (elem x ys) h)
none_is x (y ∷ ys) h (suc i) l e = none_is x ys (or_r (eqb x y) (elem x ys) h) i (omega arith) e

is_none : (x : ℕ) (xs : List ℕ) → ((i : ℕ) → i < length xs → get_or xs i 0 ≡ x → ⊥) → elem x xs ≡ false
unfolding elem
is_none x [] f = refl
is_none x (y ∷ ys) f = nor (eqb x y) (elem x ys) (ne_eqb x y (λ e. f 0 (omega arith) (sym e))) (is_none x ys (λ i l. f (suc i) (omega arith)))

-- ---- a pair
after-zero : (a b : ℕ) → fitting a b ≡ true → a ≡ 0 → b ≡ 0
unfolding fitting
after-zero a b h z = eqb-true b 0 (rw (eq-eqb a 0 z) at (and_r (not (eqb b slash)) _ h))

not_slash : (a b : ℕ) → fitting a b ≡ true → b ≡ slash → ⊥
unfolding fitting
not_slash a b h = eqb-false b slash (not-true (eqb b slash) (and_l (not (eqb b slash)) _ h))

fitting_of : (a b : ℕ) → (b ≡ slash → ⊥) → (a ≡ 0 → b ≡ 0) → fitting a b ≡ true
unfolding fitting
fitting_of a b d f = both (not (eqb b slash)) _ (not_of_false (eqb b slash) (ne_eqb b slash d))
    (split (eqb a 0)
    (λ q. or_right (not (eqb a 0)) (eqb b 0) (eq-eqb b 0 (f (eqb-true a 0 q))))
    (λ q. or_left (not (eqb a 0)) (eqb b 0) (not_of_false (eqb a 0) q)))

module _ (row : List ℕ) (w : length row ≡ name_width) where
  abbrev at : ℕ → ℕ
  at k = get_or row k 0

  abbrev n : ℕ
  n = at 0

  past_row : (k : ℕ) → name_width ≤ k → at k ≡ 0
  past_row k l = get_or-eq_default row 0 (omega arith)

  -- ---- the name of a row
  module _ (short : n ≤ max_name) where
    name_length : length (name_of row) ≡ n
    unfolding name_of
    name_length = let t = length-take n (drop 1 row) in let d = length-drop 1 row in omega arith

    name_at_lem : (i : ℕ) → i < n → get_or (name_of row) i 0 ≡ at (suc i)
    unfolding name_of
    name_at_lem i l = let o : 1 + i ≡ suc i = omega arith in get_or-take n (drop 1 row) i 0 l ∙ get_or-drop 1 row i 0 ∙ ap at o

    one_dot : n ≡ 1 → at 1 ≡ dot → name_of row ≡ dot ∷ []
    one_dot p a = ext_get_or 0 (name_of row) (dot ∷ []) (let k = name_length in omega arith)
        (λ i l. let k = name_length in let z : i ≡ 0 = omega arith in rw z (name_at_lem 0 (omega arith) ∙ a))

    two_dots : n ≡ 2 → at 1 ≡ dot → at 2 ≡ dot → name_of row ≡ dot ∷ dot ∷ []
    two_dots p a b = ext_get_or 0 (name_of row) (dot ∷ dot ∷ []) (let k = name_length in omega arith)
        (λ i l. let k = name_length in split (eqb i 0)
        (λ q. rw (eqb-true i 0 q) (name_at_lem 0 (omega arith) ∙ a))
        (λ q. let d = eqb-false i 0 q in let z : i ≡ 1 = omega arith in rw z (name_at_lem 1 (omega arith) ∙ b)))

    dots_dot : is_dots row n ≡ true → same_bytes (name_of row) (dot ∷ []) ≡ false → same_bytes (name_of row) (dot ∷ dot ∷ []) ≡ false → ⊥
    unfolding is_dots
    dots_dot h p q =
        let a = eqb-true (at 1) dot (and_l (eqb (at 1) dot) _ h) in
        either (or_cases (eqb n 1) _ (and_r (eqb (at 1) dot) _ h))
        (λ r. clash (same_bytes (name_of row) (dot ∷ [])) (rw (one_dot (eqb-true n 1 r) a) (bytes_same (dot ∷ []))) p)
        (λ r. clash (same_bytes (name_of row) (dot ∷ dot ∷ [])) (rw (two_dots (eqb-true n 2 (and_l (eqb n 2) _ r)) a (eqb-true (at 2) dot (and_r (eqb n 2) _ r))) (bytes_same (dot ∷ dot ∷ []))) q)

    no_dot : is_dots row n ≡ false → same_bytes (name_of row) (dot ∷ []) ≡ false
    unfolding is_dots
    no_dot h = split (same_bytes (name_of row) (dot ∷ []))
        (λ q.
        let e = bytes_equal (name_of row) (dot ∷ []) q in
        let m = sym name_length ∙ ap length e in
        let a = sym (name_at_lem 0 (omega arith)) ∙ ap (λ (xs : List ℕ). get_or xs 0 0) e in
        clash (is_dots row n) (both (eqb (at 1) dot) _ (eq-eqb (at 1) dot a) (or_left (eqb n 1) _ (eq-eqb n 1 m))) h)
        (λ q. q)

    no_dots : is_dots row n ≡ false → same_bytes (name_of row) (dot ∷ dot ∷ []) ≡ false
    unfolding is_dots
    no_dots h = split (same_bytes (name_of row) (dot ∷ dot ∷ []))
        (λ q.
        let e = bytes_equal (name_of row) (dot ∷ dot ∷ []) q in
        let m = sym name_length ∙ ap length e in
        let a = sym (name_at_lem 0 (omega arith)) ∙ ap (λ (xs : List ℕ). get_or xs 0 0) e in
        let b = sym (name_at_lem 1 (omega arith)) ∙ ap (λ (xs : List ℕ). get_or xs 1 0) e in
        clash (is_dots row n)
        (both (eqb (at 1) dot) _ (eq-eqb (at 1) dot a) (or_right (eqb n 1) _ (both (eqb n 2) _ (eq-eqb n 2 m) (eq-eqb (at 2) dot b)))) h)
        (λ q. q)

  -- ---- from pairs
  module _ (some : n ≡ 0 → ⊥) (short : n ≤ max_name) (pairs : fitting_pairs row ≡ true) (ends : ends_at row n ≡ true) (dots : is_dots row n ≡ false) where
    pair : (k : ℕ) → k < max_name → fitting (at k) (at (suc k)) ≡ true
    unfolding fitting_pairs
    pair k l = all-at (λ k. fitting (at k) (at (suc k))) max_name k pairs l

    -- after a zero all is zero
    run : (j d : ℕ) → at j ≡ 0 → at (d + j) ≡ 0
    run j zero z = rw (zero-add j) z
    run j (suc d) z =
        let o : suc d + j ≡ suc (d + j) = omega arith in
        split (ltb (d + j) max_name)
        (λ q. rw o (after-zero (at (d + j)) (at (suc (d + j))) (pair (d + j) (ltb-true (d + j) max_name q)) (run j d z)))
        (λ q. let g = ltb-false (d + j) max_name q in past_row (suc d + j) (omega arith))

    last_some : at n ≡ 0 → ⊥
    unfolding ends_at
    last_some z = clash (eqb (at n) 0) (eq-eqb (at n) 0 z) (not-true (eqb (at n) 0) (all_of-at _ 0 ends))

    behind : (i : ℕ) → at (suc n + i) ≡ 0
    unfolding ends_at
    behind i = let o : suc n + i ≡ i + suc n = omega arith in rw o (run (suc n) i (eqb-true (at (suc n)) 0 (all_of-at _ 1 ends)))

    inside : (i : ℕ) → i < n → at (suc i) ≡ 0 → ⊥
    inside i l z = let o : (n - suc i) + suc i ≡ n = omega arith in last_some (rw o at (run (suc i) (n - suc i) z))

    good : bad_bytes (name_of row) ≡ false
    unfolding bad_bytes
    good =
        let m = name_length short in
        nor (same_bytes (name_of row) []) _ (split (same_bytes (name_of row) []) (λ q. absurd (some (sym m ∙ ap length (bytes_equal (name_of row) [] q)))) (λ q. q))
        (nor (elem slash (name_of row)) _ (is_none slash (name_of row) (λ i l e. not_slash (at i) (at (suc i)) (pair i (omega arith)) (sym (name_at_lem short i (omega arith)) ∙ e)))
        (nor (elem 0 (name_of row)) _ (is_none 0 (name_of row) (λ i l e. inside i (omega arith) (sym (name_at_lem short i (omega arith)) ∙ e)))
        (nor (same_bytes (name_of row) (dot ∷ [])) _ (no_dot short dots) (no_dots short dots))))

    sound_of : name_sound row ≡ true
    unfolding name_sound
    sound_of =
        all_of_of
        (le-leb n max_name short
        also not_of_false (bad_bytes (name_of row)) good
        also zeros_of (drop (suc n) row) (λ i l. get_or-drop (suc n) row i 0 ∙ behind i)
        also met)

  -- ---- from the definition
  module _ (h : name_sound row ≡ true) where
    short_of : n ≤ max_name
    unfolding name_sound
    short_of = leb-true n max_name (all_of-at _ 0 h)

    fine : Plain (name_of row)
    unfolding name_sound
    fine = plain (name_of row) (not-true (bad_bytes (name_of row)) (all_of-at _ 1 h))

    zero_behind : (k : ℕ) → n < k → at k ≡ 0
    unfolding name_sound
    zero_behind k l =
        let o : suc n + (k - suc n) ≡ k = omega arith in
        sym (ap at o) ∙ sym (get_or-drop (suc n) row (k - suc n) 0) ∙ zeros-at (drop (suc n) row) (all_of-at _ 2 h) (k - suc n)

    some_of : n ≡ 0 → ⊥
    some_of z = clash (same_bytes (name_of row) []) (rw (ext_get_or 0 (name_of row) [] (name_length short_of ∙ z) (λ i l. absurd (let m = name_length short_of in omega arith))) (bytes_same [])) fine.some

    not_zero : (i : ℕ) → i < n → at (suc i) ≡ 0 → ⊥
    not_zero i l z = none_is 0 (name_of row) fine.no_zero i (let m = name_length short_of in omega arith) (name_at_lem short_of i l ∙ z)

    -- a zero stands only behind the name
    zero_late : (k : ℕ) → at k ≡ 0 → n < k
    zero_late zero z = absurd (some_of z)
    zero_late (suc i) z = split (ltb i n) (λ q. absurd (not_zero i (ltb-true i n q) z)) (λ q. let g = ltb-false i n q in omega arith)

    no_slash_at : (k : ℕ) → at (suc k) ≡ slash → ⊥
    no_slash_at k e = split (ltb k n)
        (λ q. let l = ltb-true k n q in none_is slash (name_of row) fine.no_slash k (let m = name_length short_of in omega arith) (name_at_lem short_of k l ∙ e))
        (λ q. let g = ltb-false k n q in let z = zero_behind (suc k) (omega arith) in omega arith)

    pairs_of : fitting_pairs row ≡ true
    unfolding fitting_pairs
    pairs_of = all_of_lem (λ k. fitting (at k) (at (suc k))) max_name (λ k l. fitting_of (at k) (at (suc k)) (no_slash_at k) (λ z. let g = zero_late k z in zero_behind (suc k) (omega arith)))

    ends_of : ends_at row n ≡ true
    unfolding ends_at
    ends_of = all_of_of (not_of_false (eqb (at n) 0) (ne_eqb (at n) 0 (λ z. let g = zero_late n z in omega arith)) also eq-eqb (at (suc n)) 0 (zero_behind (suc n) (omega arith)) also met)

    dots_of : is_dots row n ≡ false
    dots_of = split (is_dots row n) (λ q. absurd (dots_dot short_of q fine.no_dot fine.no_dots)) (λ q. q)

  pub form_is : form_sound row ≡ name_sound row
  unfolding form_sound
  form_is = agree (form_sound row) (name_sound row)
      (λ q.
      sound_of (eqb-false n 0 (not-true (eqb n 0) (all_of-at _ 0 q))) (leb-true n max_name (all_of-at _ 1 q)) (all_of-at _ 2 q) (all_of-at _ 3 q) (not-true (is_dots row n) (all_of-at _ 4 q)))
      (λ q.
      all_of_of
      (not_of_false (eqb n 0) (ne_eqb n 0 (some_of q))
      also le-leb n max_name (short_of q)
      also pairs_of q
      also ends_of q
      also not_of_false (is_dots row n) (dots_of q)
      also met))

-- ---- a row is told by its name
pub row_of_name : (row other : List ℕ) → length row ≡ name_width → length other ≡ name_width → name_sound row ≡ true → name_sound other ≡ true → name_of row ≡ name_of other → row ≡ other
row_of_name row other w v h g e =
    let same : get_or row 0 0 ≡ get_or other 0 0 = sym (name_length row w (short_of row w h)) ∙ ap length e ∙ name_length other v (short_of other v g) in
    ext_get_or 0 row other (omega arith) (λ k l. split (eqb k 0)
    (λ q. rw (eqb-true k 0 q) same)
    (λ q.
    let d = eqb-false k 0 q in
    let o : suc (k - 1) ≡ k = omega arith in
    split (ltb (k - 1) (get_or row 0 0))
    (λ r.
    let i = ltb-true (k - 1) (get_or row 0 0) r in
    rw o at (sym (name_at_lem row w (short_of row w h) (k - 1) i) ∙ ap (λ (xs : List ℕ). get_or xs (k - 1) 0) e ∙ name_at_lem other v (short_of other v g) (k - 1) (omega arith)))
    (λ r.
    let i = ltb-false (k - 1) (get_or row 0 0) r in
    zero_behind row w h k (omega arith) ∙ sym (zero_behind other v g k (omega arith)))))
