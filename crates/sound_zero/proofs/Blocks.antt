-- Blocks of eight cells: joined by bit-or they are 0 exactly if each cell is 0. Assumes nothing.
use mathlib.Core.Path.{◌≡◌, refl, sym, ap, ◌∙◌}
use mathlib.Core.Bool.{true, false, ◌&&◌, and_assoc}
use mathlib.Core.List.{List, []}
use Prim.Native.Nat.{ℕ, zero, suc, ◌+◌, ◌-◌, ◌*◌, ◌/◌, ◌<◌}
use native.Mathlib.Omega.{arith}
use lib.Bits.{bit_or, or_add_and, and_le_l, and_le_r}
use lib.Dec.{eqb, ltb}
use lib.ListN.{length, get_or, drop}
use Rattle.std.specs.Simd.{first_chunks}
use Rattle.std.proofs.lemmas.List.{get_or-drop, drop-drop}
use borrow.Author.Tests.{eqb-true, eq-eqb, ltb-true, ltb-false}
use Rattle.laws.specs.Tests.{all_below}
use Rattle.laws.specs.Cells.{part, zeros}
use Rattle.laws.proofs.Bools.{and_l, and_r, both, split, clash, agree}
use Rattle.laws.proofs.Cells.{zeros-at, zeros_of, zeros-part-at, zeros_part_of}

-- a bit-or is 0 exactly if both numbers are
pub or_zero : (a b : ℕ) → eqb (bit_or a b) 0 ≡ (eqb a 0 && eqb b 0)
or_zero a b =
    let s = or_add_and a b in
    let l = and_le_l a b in
    let r = and_le_r a b in
    agree (eqb (bit_or a b) 0) (eqb a 0 && eqb b 0)
    (λ q. let z = eqb-true (bit_or a b) 0 q in both (eqb a 0) (eqb b 0) (eq-eqb a 0 (omega arith)) (eq-eqb b 0 (omega arith)))
    (λ q.
    let x = eqb-true a 0 (and_l (eqb a 0) (eqb b 0) q) in
    let y = eqb-true b 0 (and_r (eqb a 0) (eqb b 0) q) in
    eq-eqb (bit_or a b) 0 (omega arith))

-- four cells and four cells
joined : (a b c d e f g h : ℕ) → eqb (bit_or (bit_or (bit_or (bit_or a b) c) d) (bit_or (bit_or (bit_or e f) g) h)) 0
    ≡ (((((((eqb a 0 && eqb b 0) && eqb c 0) && eqb d 0) && eqb e 0) && eqb f 0) && eqb g 0) && eqb h 0)
joined a b c d e f g h = simp (or_zero, and_assoc)

-- a block of eight cells
module _ (t : List ℕ) where
  abbrev pub at : ℕ → ℕ
  at n = get_or t n 0

  pub block : length t ≡ 8 → eqb (bit_or (bit_or (bit_or (bit_or (at 0) (at 1)) (at 2)) (at 3)) (bit_or (bit_or (bit_or (at 4) (at 5)) (at 6)) (at 7))) 0 ≡ zeros t
  unfolding zeros all_below
  block e = joined (at 0) (at 1) (at 2) (at 3) (at 4) (at 5) (at 6) (at 7) ∙ sym (ap (all_below (λ i. eqb (at i) 0)) e)

-- ---- a table by its blocks
-- block k has the cells from 8 * k on
chunk : (t : List ℕ) (n k : ℕ) → k < n → get_or (first_chunks 8 n t) k [] ≡ part t (8 * k) (8 * k + 8)
chunk t zero k h = absurd (omega arith)
chunk t (suc n) zero h = refl
chunk t (suc n) (suc k) h =
    let e : 8 * k + 8 - 8 * k ≡ 8 * suc k + 8 - 8 * suc k = omega arith in
    let d : 8 + 8 * k ≡ 8 * suc k = omega arith in
    chunk (drop 8 t) n k (omega arith) ∙ rw (drop-drop (8 * k) 8 t, d, e) refl

module _ (t : List ℕ) (blocks : List (List ℕ)) (is : blocks ≡ first_chunks 8 (length t / 8) t) where
  block_at : (k : ℕ) → k < length t / 8 → get_or blocks k [] ≡ part t (8 * k) (8 * k + 8)
  block_at k h = rw is (chunk t (length t / 8) k h)

  -- a block that is not 0
  pub block_fails : (k : ℕ) → k < length t / 8 → zeros (get_or blocks k []) ≡ false → false ≡ zeros t
  block_fails k h z = split (zeros t)
      (λ q. clash (zeros (get_or blocks k [])) (rw (block_at k h) (zeros_part_of t (8 * k) (8 * k + 8) (λ n a b. zeros-at t q n))) z)
      (λ q. sym q)

  -- the cells after the blocks decide
  pub zeros-rest : ((k : ℕ) → k < length t / 8 → zeros (get_or blocks k []) ≡ true) → zeros (drop (length t / 8 * 8) t) ≡ zeros t
  zeros-rest f =
      let m : ℕ = length t / 8 * 8 in
      agree (zeros (drop m t)) (zeros t)
      (λ q. zeros_of t (λ j g. split (ltb j m)
      (λ b. let l = ltb-true j m b in
      let h : j / 8 < length t / 8 = omega arith in
      zeros-part-at t (8 * (j / 8)) (8 * (j / 8) + 8) (rw (block_at (j / 8) h) at (f (j / 8) h)) j (omega arith) (omega arith))
      (λ b. let l = ltb-false j m b in
      let e : m + (j - m) ≡ j = omega arith in
      rw e at (sym (get_or-drop m t (j - m) 0) ∙ zeros-at (drop m t) q (j - m)))))
      (λ q. zeros_of (drop m t) (λ i h. get_or-drop m t i 0 ∙ zeros-at t q (m + i)))
