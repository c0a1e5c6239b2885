-- The laws of ranges of places and of masks, for any place and any bit. Assumes nothing.
use mathlib.Core.Path.{◌≡◌, sym, ap, ◌∙◌}
use mathlib.Core.Bool.{true, false, ◌||◌, false≢true}
use Prim.Native.Nat.{ℕ, zero, suc, ◌+◌, ◌-◌, ◌*◌, ◌/◌, ◌%◌, ◌^◌, ◌≤◌, ◌<◌}
use native.Mathlib.Nat.{add_comm, add-mul, one-mul, zero-mul, pow-suc}
use native.Mathlib.Numerals.{add-one}
use native.Mathlib.Omega.{arith}
use lib.Bits.{or_shifted_r}
use lib.Dec.{eqb, ltb, leb}
use lib.Pow.{pow_pos, pow-add, shl_lt, shl_exact, high, ones_lt, ones_split}
use borrow.Author.Tests.{eqb-true, eq-eqb, leb-true, le-leb, ltb-true, ltb-false, lt-ltb}
use Rattle.laws.proofs.Bools.{and_l, and_r, both, or_cases, or_left, or_right, split, either, agree}
use Rattle.access.specs.Rights.{has, join, only}
use Rattle.access.proofs.Laws.{has_join, has-only, has-none}
use Rattle.bitmap.specs.Bitmap.{ones, in_range}

-- ---- ranges
-- what a place in a range is, and the way back
pub range_at : (s n i : ℕ) → in_range s n i ≡ true → (s ≤ i) × (i < s + n)
range_at s n i h = (leb-true s i (and_l _ _ h), ltb-true i (s + n) (and_r (leb s i) _ h))

pub range_of : (s n i : ℕ) → s ≤ i → i < s + n → in_range s n i ≡ true
range_of s n i a b = both (leb s i) _ (le-leb s i a) (lt-ltb i (s + n) b)

-- two ranges, one after the other
pub range_join : (s m n i : ℕ) → (in_range s m i || in_range (s + m) n i) ≡ in_range s (m + n) i
range_join s m n i =
    agree (in_range s m i || in_range (s + m) n i) (in_range s (m + n) i)
    (λ q. either (or_cases (in_range s m i) (in_range (s + m) n i) q)
    (λ a. let f = range_at s m i a in range_of s (m + n) i (omega arith) (omega arith))
    (λ b. let f = range_at (s + m) n i b in range_of s (m + n) i (omega arith) (omega arith)))
    (λ q.
    let f = range_at s (m + n) i q in
    split (ltb i (s + m))
    (λ l. or_left _ _ (range_of s m i f.0 (ltb-true i (s + m) l)))
    (λ l. or_right (in_range s m i) _ (range_of (s + m) n i (ltb-false i (s + m) l) (omega arith))))

-- a range of one place, and of none
pub range_one : (s i : ℕ) → eqb i s ≡ in_range s 1 i
range_one s i =
    agree (eqb i s) (in_range s 1 i)
    (λ q. let e = eqb-true i s q in range_of s 1 i (omega arith) (omega arith))
    (λ q. let f = range_at s 1 i q in eq-eqb i s (omega arith))

pub range_none : (s i : ℕ) → false ≡ in_range s 0 i
range_none s i = agree false (in_range s 0 i) (λ q. absurd (false≢true q)) (λ q. absurd (let f = range_at s 0 i q in omega arith))

-- ---- masks
-- one bit more
ones_more : (s n : ℕ) → ones s (suc n) ≡ join (ones s n) (only (s + n))
ones_more s n =
    let e : 2 ^ suc n - 1 ≡ 2 ^ n + (2 ^ n - 1) = let d = pow-suc 2 n in let p = pow_pos n in omega arith in
    let t : 2 ^ n * 2 ^ s ≡ 1 * 2 ^ (s + n) = sym (pow-add 2 n s) ∙ ap (λ (k : ℕ). 2 ^ k) (add_comm n s) ∙ sym (one-mul (2 ^ (s + n))) in
    let b : ones s n < 2 ^ (s + n) = rw (add_comm n s) at (shl_lt n s (ones_lt n)) in
    ap (λ (k : ℕ). k * 2 ^ s) e
    ∙ add-mul (2 ^ n) (2 ^ n - 1) (2 ^ s)
    ∙ ap (λ (k : ℕ). k + ones s n) t
    ∙ sym (or_shifted_r 1 (s + n) (ones s n) b)
    ∙ ap (join (ones s n)) (one-mul (2 ^ (s + n)))

-- the bits of a mask
pub has-ones : (s n i : ℕ) → has (ones s n) i ≡ in_range s n i
has-ones s zero i = rw (zero-mul (2 ^ s)) (has-none i ∙ range_none s i)
has-ones s (suc n) i =
    ap (λ (m : ℕ). has m i) (ones_more s n)
    ∙ has_join (ones s n) (only (s + n)) i
    ∙ rw (has-ones s n i, has-only (s + n) i, range_one (s + n) i, ← add-one n) (range_join s n 1 i)

-- a word of ones, shifted down and up
pub ones_shifted : (s n : ℕ) → s + n ≤ 64 → ((2 ^ 64 - 1) / 2 ^ (64 - n) * 2 ^ s) % 2 ^ 64 ≡ ones s n
ones_shifted s n h =
    let e : n + (64 - n) ≡ 64 = omega arith in
    let d : (2 ^ 64 - 1) / 2 ^ (64 - n) ≡ 2 ^ n - 1 = ap (λ (k : ℕ). (2 ^ k - 1) / 2 ^ (64 - n)) (sym e) ∙ ap (λ (k : ℕ). k / 2 ^ (64 - n)) (ones_split n (64 - n)) ∙ high (2 ^ n - 1) (64 - n) (ones_lt (64 - n)) in
    ap (λ (k : ℕ). (k * 2 ^ s) % 2 ^ 64) d ∙ shl_exact n s 64 (ones_lt n) (omega arith)

-- a one, shifted up
pub only_shifted : (s : ℕ) → s < 64 → (1 * 2 ^ s) % 2 ^ 64 ≡ only s
only_shifted s h = shl_exact 1 s 64 (omega arith) (omega arith) ∙ one-mul (2 ^ s)
