-- Laws of a list of bytes as fields. Assumes nothing.
use mathlib.Core.Path.{◌≡◌, refl, ap, ◌∙◌}
use mathlib.Core.List.{List, [], ◌∷◌}
use Prim.Native.Nat.{ℕ, zero, suc, ◌+◌, ◌-◌, ◌*◌, ◌≤◌, ◌<◌}
use native.Mathlib.Omega.{arith}
use native.Mathlib.Numerals.{add-three}
use lib.Dec.{leb}
use lib.ListN.{length, get_or, take, drop, length-drop}
use lib.Seq.{length-take-le, drop-length}
use borrow.Author.Tests.{le-leb, lt-leb, leb-true, leb-false}
use Rattle.laws.specs.Cells.{part}
use Rattle.laws.proofs.Bools.{split}
use Rattle.laws.proofs.Cells.{part_length}
use Rattle.policy.specs.Fields.{header, Piece, field, stray, size, cut, pieces, front}
use Rattle.policy.proofs.Parts.{drop-part, take_part, part_three}

-- with enough fuel, the fuel does not count
cut_fuel : (n m : ℕ) (xs : List ℕ) → length xs ≤ n → length xs ≤ m → cut n xs ≡ cut m xs
unfolding cut
cut_fuel zero zero xs p q = refl
cut_fuel zero (suc m) [] p q = refl
cut_fuel zero (suc m) (x ∷ xs) p q = absurd (omega arith)
cut_fuel (suc n) zero [] p q = refl
cut_fuel (suc n) zero (x ∷ xs) p q = absurd (omega arith)
cut_fuel (suc n) (suc m) [] p q = refl
cut_fuel (suc n) (suc m) (t ∷ []) p q = refl
cut_fuel (suc n) (suc m) (t ∷ a ∷ []) p q = refl
cut_fuel (suc n) (suc m) (t ∷ a ∷ b ∷ xs) p q =
    rw (cut_fuel n m (drop (a + 256 * b) xs) (rw length-drop (omega arith)) (rw length-drop (omega arith)))

pub pieces_nil : pieces [] ≡ []
unfolding pieces cut
pieces_nil = refl

pub pieces_whole : (t a b : ℕ) (xs : List ℕ) → a + 256 * b ≤ length xs → pieces (t ∷ a ∷ b ∷ xs) ≡ field t (take (a + 256 * b) xs) ∷ pieces (drop (a + 256 * b) xs)
unfolding pieces cut
pieces_whole t a b xs h =
    rw (le-leb (a + 256 * b) (length xs) h)
    (ap (λ (ps : List Piece). field t (take (a + 256 * b) xs) ∷ ps) (cut_fuel (suc (suc (length xs))) (length (drop (a + 256 * b) xs)) (drop (a + 256 * b) xs) (rw length-drop (omega arith)) (omega arith)))

pub pieces-cut : (t a b : ℕ) (xs : List ℕ) → length xs < a + 256 * b → pieces (t ∷ a ∷ b ∷ xs) ≡ stray (t ∷ a ∷ b ∷ xs) ∷ []
unfolding pieces cut
pieces-cut t a b xs h = rw (lt-leb (a + 256 * b) (length xs) h)

pub pieces-short : (xs : List ℕ) → 0 < length xs → length xs < header → pieces xs ≡ stray xs ∷ []
unfolding pieces cut
pieces-short [] h k = absurd (omega arith)
pieces-short (t ∷ []) h k = refl
pieces-short (t ∷ a ∷ []) h k = refl
pieces-short (t ∷ a ∷ b ∷ xs) h k = absurd (omega arith)

step_of : (xs : List ℕ) (p : Piece) → pieces xs ≡ p ∷ pieces (drop (size p) xs) → pieces xs ≡ front (pieces xs) ∷ pieces (drop (size (front (pieces xs))) xs)
unfolding front
step_of xs p e = let f : front (pieces xs) ≡ p = ap front e in rw f e

drop_three : (t a b k : ℕ) (xs : List ℕ) → drop (k + 3) (t ∷ a ∷ b ∷ xs) ≡ drop k xs
drop_three t a b k xs = rw add-three

-- the first piece, and what follows it
pub pieces_step : (xs : List ℕ) → 0 < length xs → pieces xs ≡ front (pieces xs) ∷ pieces (drop (size (front (pieces xs))) xs)
unfolding size
pieces_step [] h = absurd (omega arith)
pieces_step (t ∷ []) h = step_of (t ∷ []) (stray (t ∷ [])) (pieces-short (t ∷ []) h (omega arith) ∙ rw pieces_nil)
pieces_step (t ∷ a ∷ []) h = step_of (t ∷ a ∷ []) (stray (t ∷ a ∷ [])) (pieces-short (t ∷ a ∷ []) h (omega arith) ∙ rw pieces_nil)
pieces_step (t ∷ a ∷ b ∷ xs) h =
    split (leb (a + 256 * b) (length xs))
    (λ q.
    let k : a + 256 * b ≤ length xs = leb-true _ _ q in
    step_of _ (field t (take (a + 256 * b) xs)) (pieces_whole t a b xs k ∙ rw (length-take-le (a + 256 * b) xs k, drop_three)))
    (λ q. step_of _ (stray (t ∷ a ∷ b ∷ xs)) (pieces-cut t a b xs (leb-false _ _ q) ∙ rw (drop-length, pieces_nil)))

-- the pieces take as many bytes as there are
unfoldable pub sizes : List Piece → ℕ
sizes [] = 0
sizes (p ∷ ps) = size p + sizes ps

cut_sizes : (n : ℕ) (xs : List ℕ) → length xs ≤ n → sizes (cut n xs) ≡ length xs
unfolding cut sizes size
cut_sizes zero [] h = refl
cut_sizes zero (x ∷ xs) h = absurd (omega arith)
cut_sizes (suc n) [] h = refl
cut_sizes (suc n) (t ∷ []) h = refl
cut_sizes (suc n) (t ∷ a ∷ []) h = refl
cut_sizes (suc n) (t ∷ a ∷ b ∷ xs) h =
    split (leb (a + 256 * b) (length xs))
    (λ q.
    let k : a + 256 * b ≤ length xs = leb-true _ _ q in
    let r = cut_sizes n (drop (a + 256 * b) xs) (rw length-drop (omega arith)) in
    let l = length-drop (a + 256 * b) xs in
    let m = length-take-le (a + 256 * b) xs k in
    rw q (omega arith))
    (λ q. rw q (omega arith))

pub pieces_sizes : (xs : List ℕ) → sizes (pieces xs) ≡ length xs
unfolding pieces
pieces_sizes xs = cut_sizes (length xs) xs (omega arith)

front-some : (xs : List ℕ) → 0 < length xs → 0 < size (front (pieces xs))
unfolding size front
front-some [] h = absurd (omega arith)
front-some (t ∷ []) h = rw (pieces-short (t ∷ []) h (omega arith)) (omega arith)
front-some (t ∷ a ∷ []) h = rw (pieces-short (t ∷ a ∷ []) h (omega arith)) (omega arith)
front-some (t ∷ a ∷ b ∷ xs) h =
    split (leb (a + 256 * b) (length xs))
    (λ q. rw (pieces_whole t a b xs (leb-true _ _ q)) (omega arith))
    (λ q. rw (pieces-cut t a b xs (leb-false _ _ q)) (omega arith))

-- ---- parts of a file

-- what the two length bytes of the field at a place say
abbrev pub len : List ℕ → ℕ → ℕ
len f a = get_or f (a + 1) 0 + 256 * get_or f (a + 2) 0

module _ (f : List ℕ) (a e : ℕ) (le : e ≤ length f) where
  pub part-whole : a + header ≤ e → len f a ≤ e - a - header → pieces (part f a e) ≡ field (get_or f a 0) (part f (a + header) (a + header + len f a)) ∷ pieces (part f (a + header + len f a) e)
  part-whole h k =
      let l : length (part f (a + header) e) ≡ e - (a + header) = part_length f (a + header) e le in
      ap pieces (part_three f a e h le) ∙ pieces_whole _ _ _ (part f (a + header) e) (omega arith) ∙ rw (drop-part f (len f a) (a + header) e, take_part f (len f a) (a + header) e (omega arith))

  pub part_cut : a + header ≤ e → e - a - header < len f a → pieces (part f a e) ≡ stray (part f a e) ∷ []
  part_cut h k =
      let l : length (part f (a + header) e) ≡ e - (a + header) = part_length f (a + header) e le in
      rw (part_three f a e h le) (pieces-cut _ _ _ (part f (a + header) e) (omega arith))

  pub part-short : a < e → e - a < header → pieces (part f a e) ≡ stray (part f a e) ∷ []
  part-short h k = let l : length (part f a e) ≡ e - a = part_length f a e le in pieces-short (part f a e) (omega arith) (omega arith)

  -- the first piece of a part, and what follows it
  pub part_step : a < e → pieces (part f a e) ≡ front (pieces (part f a e)) ∷ pieces (part f (a + size (front (pieces (part f a e)))) e)
  part_step h =
      let l : length (part f a e) ≡ e - a = part_length f a e le in
      let q : 0 < length (part f a e) = omega arith in
      pieces_step (part f a e) q ∙ rw (drop-part f (size (front (pieces (part f a e)))) a e)

  -- it ends within the part, and takes at least a byte
  pub part-front : a < e → (0 < size (front (pieces (part f a e)))) × (a + size (front (pieces (part f a e))) ≤ e)
  unfolding sizes
  part-front h =
      let l : length (part f a e) ≡ e - a = part_length f a e le in
      let s : sizes (pieces (part f a e)) ≡ length (part f a e) = pieces_sizes (part f a e) in
      let t : sizes (pieces (part f a e)) ≡ size (front (pieces (part f a e))) + sizes (pieces (part f (a + size (front (pieces (part f a e)))) e)) = ap sizes (part_step h) in
      (front-some (part f a e) (omega arith), omega arith)
