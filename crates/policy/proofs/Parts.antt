-- Laws of parts of a file. Assumes nothing.
use mathlib.Core.Path.{◌≡◌, refl, sym, ◌∙◌}
use mathlib.Core.List.{List, [], ◌∷◌, ◌++◌}
use Prim.Native.Nat.{ℕ, zero, suc, ◌+◌, ◌-◌, ◌≤◌, ◌<◌}
use native.Mathlib.Omega.{arith}
use native.Mathlib.Numerals.{add-one, add-two, add-three}
use lib.ListN.{length, get_or, take, drop}
use lib.Seq.{take-length, take-nil, take-take, drop-drop, drop-cons, take-add}
use Rattle.laws.specs.Cells.{part}

drop-take : (k n : ℕ) (l : List ℕ) → drop k (take n l) ≡ take (n - k) (drop k l)
drop-take zero n l = let z : n - 0 ≡ n = omega arith in rw z
drop-take (suc k) zero l = let z : zero - suc k ≡ 0 = omega arith in rw z
drop-take (suc k) (suc n) [] = sym (take-nil (suc n - suc k))
drop-take (suc k) (suc n) (x ∷ l) = let z : suc n - suc k ≡ n - k = omega arith in drop-take k n l ∙ rw z

module _ (f : List ℕ) where
  -- the whole file
  pub part-all : part f 0 (length f) ≡ f
  part-all = let z : length f - 0 ≡ length f = omega arith in rw z (take-length f)

  pub part_none : (a : ℕ) → part f a a ≡ []
  part_none a = let z : a - a ≡ 0 = omega arith in rw z

  pub drop-part : (k a e : ℕ) → drop k (part f a e) ≡ part f (a + k) e
  drop-part k a e = let z : e - a - k ≡ e - (a + k) = omega arith in drop-take k (e - a) (drop a f) ∙ rw (drop-drop k a f, z)

  pub take_part : (k a e : ℕ) → a + k ≤ e → take k (part f a e) ≡ part f a (a + k)
  take_part k a e h = let z : a + k - a ≡ k = omega arith in take-take k (e - a) (drop a f) (omega arith) ∙ rw z

  part_cons : (a e : ℕ) → a < e → e ≤ length f → part f a e ≡ get_or f a 0 ∷ part f (suc a) e
  part_cons a e h k = let z : e - a ≡ suc (e - suc a) = omega arith in rw (z, drop-cons f a 0 (omega arith))

  -- the first byte
  pub part-first : (a e : ℕ) → a < e → e ≤ length f → get_or (part f a e) 0 0 ≡ get_or f a 0
  part-first a e h k = rw (part_cons a e h k)

  -- three bytes, and the rest of the part
  pub part_three : (a e : ℕ) → a + 3 ≤ e → e ≤ length f → part f a e ≡ get_or f a 0 ∷ get_or f (a + 1) 0 ∷ get_or f (a + 2) 0 ∷ part f (a + 3) e
  part_three a e h k = rw (add-one, add-two, add-three, part_cons a e (omega arith) k, part_cons (suc a) e (omega arith) k, part_cons (suc (suc a)) e (omega arith) k)

  -- two parts, one behind the other
  pub part-append : (a m e : ℕ) → a ≤ m → m ≤ e → part f a m ++ part f m e ≡ part f a e
  part-append a m e h k =
      let z : m - a + (e - m) ≡ e - a = omega arith in
      let y : a + (m - a) ≡ m = omega arith in
      sym (rw (← z, take-add (m - a) (e - m) (drop a f), drop-drop (m - a) a f, y) refl)
