-- Bytes that begin with a whole field. Assumes nothing.
use mathlib.Core.Path.{◌≡◌, refl, sym, ap, ◌∙◌, subst}
use mathlib.Core.List.{List, [], ◌∷◌, ◌++◌}
use Prim.Native.Nat.{ℕ, zero, suc, ◌+◌, ◌*◌, ◌≤◌, ◌<◌}
use native.Mathlib.Omega.{arith}
use lib.Dec.{leb}
use lib.ListN.{length, take, drop, length-append, take-append-drop}
use lib.Seq.{length-take-le, take-append_seam, drop-append_seam, take-append-add, drop-append-add}
use borrow.Author.Tests.{leb-true, leb-false}
use Rattle.laws.proofs.Bools.{split}
use Rattle.policy.specs.Fields.{header, Piece, field, stray, pieces, front}
use Rattle.policy.proofs.Pieces.{pieces_whole, pieces-cut, pieces-short, pieces_step}
use Rattle.policy_walk.proofs.Flat.{front_nil}

-- the bytes of a field, its two bytes of length, and what follows it
pub record Front (xs : List ℕ) (t : ℕ) (v : List ℕ) : Type 0 where
  pub low : ℕ
  pub high : ℕ
  pub rest : List ℕ
  pub len : low + 256 * high ≡ length v
  pub is : xs ≡ t ∷ low ∷ high ∷ (v ++ rest)

pub whole-pieces : (t a b : ℕ) (v zs : List ℕ) → a + 256 * b ≡ length v → pieces (t ∷ a ∷ b ∷ (v ++ zs)) ≡ field t v ∷ pieces zs
whole-pieces t a b v zs e = let l = length-append v zs in pieces_whole t a b (v ++ zs) (omega arith) ∙ rw (e, take-append_seam, drop-append_seam)

module _ {xs : List ℕ} {t : ℕ} {v : List ℕ} (F : Front xs t v) where
  pub front-pieces : pieces xs ≡ field t v ∷ pieces F.rest
  front-pieces = ap pieces F.is ∙ whole-pieces t F.low F.high v F.rest F.len

  pub front_length : length xs ≡ length v + header + length F.rest
  front_length = let a = ap length F.is in let b = length-append v F.rest in omega arith

  three : (k : ℕ) → length v + header + k ≡ suc (suc (suc (length v + k)))
  three k = omega arith

  -- it is dropped or taken whole
  pub drop_past : (k : ℕ) → drop (length v + header + k) xs ≡ drop k F.rest
  drop_past k = ap (drop (length v + header + k)) F.is ∙ rw (three k) (drop-append-add v F.rest k)

  pub take_past : (k : ℕ) → take (length v + header + k) xs ≡ t ∷ F.low ∷ F.high ∷ (v ++ take k F.rest)
  take_past k = ap (take (length v + header + k)) F.is ∙ rw (three k) (ap (λ (l : List ℕ). t ∷ F.low ∷ F.high ∷ l) (take-append-add v F.rest k))

  pub take-pieces : (k : ℕ) → pieces (take (length v + header + k) xs) ≡ field t v ∷ pieces (take k F.rest)
  take-pieces k = ap pieces (take_past k) ∙ whole-pieces t F.low F.high v (take k F.rest) F.len

stray-field : {A : Type 0} (s : List ℕ) (t : ℕ) (v : List ℕ) → stray s ≡ field t v → A
stray-field s t v e = absurd (let z : ◌≡◌ {A = ℕ} 0 1 = cc in omega arith)

pub fronts : (xs : List ℕ) (t : ℕ) (v : List ℕ) → front (pieces xs) ≡ field t v → Front xs t v
unfolding front
fronts [] t v e = stray-field [] t v (sym front_nil ∙ e)
fronts (x ∷ []) t v e = stray-field (x ∷ []) t v (sym (ap front (pieces-short (x ∷ []) (omega arith) (omega arith))) ∙ e)
fronts (x ∷ a ∷ []) t v e = stray-field (x ∷ a ∷ []) t v (sym (ap front (pieces-short (x ∷ a ∷ []) (omega arith) (omega arith))) ∙ e)
fronts (x ∷ a ∷ b ∷ xs) t v e =
    split (leb (a + 256 * b) (length xs))
    (λ q.
    let k : a + 256 * b ≤ length xs = leb-true (a + 256 * b) (length xs) q in
    let n : ℕ = a + 256 * b in
    let f : field x (take n xs) ≡ field t v = sym (ap front (pieces_whole x a b xs k)) ∙ e in
    let tag : x ≡ t = cc in
    let val : take n xs ≡ v = cc in
    let l : length (take n xs) ≡ n = length-take-le n xs k in
    let len : a + 256 * b ≡ length v = sym l ∙ ap length val in
    let all : take n xs ++ drop n xs ≡ xs = take-append-drop n xs in
    record { low = a; high = b; rest = drop n xs; len = len; is = λ i. tag i ∷ a ∷ b ∷ (sym all ∙ ap (λ (u : List ℕ). u ++ drop n xs) val) i })
    (λ q. stray-field (x ∷ a ∷ b ∷ xs) t v (sym (ap front (pieces-cut x a b xs (leb-false (a + 256 * b) (length xs) q))) ∙ e))

-- ---- pieces of which each is good
abbrev pub GoodAll : (Piece → Type 0) → List Piece → Type 0
GoodAll G [] = Unit {0}
GoodAll G (p ∷ ps) = G p × GoodAll G ps

-- What holds of no bytes, and of bytes that begin with a whole field if it holds of what follows, holds of all bytes with good pieces, where bytes
-- that are no field are never good.
module _ (G : Piece → Type 0) (whole : (s : List ℕ) → G (stray s) → ⊥) (P : List ℕ → Type 0) (none : P [])
    (more : (xs : List ℕ) (t : ℕ) (v : List ℕ) (F : Front xs t v) → G (field t v) → GoodAll G (pieces F.rest) → P F.rest → P xs) where
  abbrev Below : ℕ → Type 0
  Below k = (zs : List ℕ) → length zs ≤ k → GoodAll G (pieces zs) → P zs

  from_front : (k : ℕ) (xs : List ℕ) (t : ℕ) (v : List ℕ) → length xs ≤ suc k → Front xs t v → GoodAll G (pieces xs) → Below k → P xs
  from_front k xs t v h F g rest =
      let l = front_length F in
      let g' : GoodAll G (field t v ∷ pieces F.rest) = subst (GoodAll G) (front-pieces F) g in
      more xs t v F g'.0 g'.1 (rest F.rest (omega arith) g'.1)

  from_first : (k : ℕ) (xs : List ℕ) (p : Piece) → length xs ≤ suc k → front (pieces xs) ≡ p → G p → GoodAll G (pieces xs) → Below k → P xs
  from_first k xs (stray s) h e q g rest = absurd (whole s q)
  from_first k xs (field t v) h e q g rest = from_front k xs t v h (fronts xs t v e) g rest

  first_good : (xs : List ℕ) → 0 < length xs → GoodAll G (pieces xs) → G (front (pieces xs))
  first_good xs h g = (subst (GoodAll G) (pieces_step xs h) g).0

  step : (k : ℕ) (xs : List ℕ) → length xs ≤ suc k → GoodAll G (pieces xs) → Below k → P xs
  step k [] h g rest = none
  step k (x ∷ xs) h g rest = from_first k (x ∷ xs) (front (pieces (x ∷ xs))) h refl (first_good (x ∷ xs) (omega arith) g) g rest

  empty : (xs : List ℕ) → length xs ≤ 0 → P xs
  empty [] h = none
  empty (x ∷ xs) h = absurd (omega arith)

  by_length : (k : ℕ) → Below k
  by_length zero xs h g = empty xs h
  by_length (suc k) xs h g = step k xs h g (by_length k)

  pub by_fronts : (xs : List ℕ) → GoodAll G (pieces xs) → P xs
  by_fronts xs g = by_length (length xs) xs (omega arith) g
