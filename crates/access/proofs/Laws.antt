-- The laws of right sets, for any right. Assumes nothing.
use mathlib.Core.Path.{◌≡◌, refl, sym, ap, ◌∙◌}
use mathlib.Core.Bool.{Bool, true, false, not, ◌&&◌, ◌||◌}
use Prim.Native.Nat.{ℕ, zero, suc, ◌+◌, ◌-◌, ◌*◌, ◌/◌, ◌%◌, ◌^◌, ◌<◌, min, max}
use native.Mathlib.Nat.{div-one, zero-div, div-div-eq-div-mul, pow-succ'}
use native.Mathlib.Omega.{arith}
use lib.Arith.{bin_ind}
use lib.Dec.{eqb}
use lib.Bits.{bit_and, bit_or, bit_xor, differ, and_step, or_step, xor_step, and_shr, or_shr, xor_shr}
use borrow.Author.Tests.{eqb-true, eq-eqb, eqb-false}
use Rattle.laws.proofs.Bools.{split, either, and_l, or_cases, or_left, clash}
use Rattle.access.specs.Rights.{has, join, meet, without, within, only}

-- an operation f on digits does what g does on Booleans
module _ (f : ℕ → ℕ → ℕ) (g : Bool → Bool → Bool) where
  digit : eqb (f 0 0) 1 ≡ g false false → eqb (f 0 1) 1 ≡ g false true → eqb (f 1 0) 1 ≡ g true false → eqb (f 1 1) 1 ≡ g true true
      → (p q : ℕ) → p < 2 → q < 2 → eqb (f p q) 1 ≡ g (eqb p 1) (eqb q 1)
  digit a b c d zero zero hp hq = a
  digit a b c d zero (suc zero) hp hq = b
  digit a b c d zero (suc (suc q)) hp hq = absurd (omega arith)
  digit a b c d (suc zero) zero hp hq = c
  digit a b c d (suc zero) (suc zero) hp hq = d
  digit a b c d (suc zero) (suc (suc q)) hp hq = absurd (omega arith)
  digit a b c d (suc (suc p)) q hp hq = absurd (omega arith)

last : (x d : ℕ) → d < 2 → (x * 2 + d) % 2 ≡ d
last x d h = omega arith

-- bit i of an operation on masks, from its law of shifts and its law of the last digit
module _ (op f : ℕ → ℕ → ℕ) (g : Bool → Bool → Bool)
    (shr : (a b k : ℕ) → op a b / 2 ^ k ≡ op (a / 2 ^ k) (b / 2 ^ k))
    (step : (a b : ℕ) → op a b ≡ op (a / 2) (b / 2) * 2 + f (a % 2) (b % 2))
    (small : (p q : ℕ) → p < 2 → q < 2 → f p q < 2)
    (agree : (p q : ℕ) → p < 2 → q < 2 → eqb (f p q) 1 ≡ g (eqb p 1) (eqb q 1)) where
  has_op : (a b i : ℕ) → has (op a b) i ≡ g (has a i) (has b i)
  unfolding has
  has_op a b i =
      let x = a / 2 ^ i in let y = b / 2 ^ i in
      let hx : x % 2 < 2 = omega arith in
      let hy : y % 2 < 2 = omega arith in
      ap (λ (n : ℕ). eqb (n % 2) 1) (shr a b i ∙ step x y)
      ∙ ap (λ (n : ℕ). eqb n 1) (last (op (x / 2) (y / 2)) (f (x % 2) (y % 2)) (small (x % 2) (y % 2) hx hy))
      ∙ agree (x % 2) (y % 2) hx hy

differ_small : (p q : ℕ) → p < 2 → q < 2 → differ p q < 2
differ_small zero q hp hq = hq
differ_small (suc zero) zero hp hq = hp
differ_small (suc zero) (suc zero) hp hq = omega arith
differ_small (suc zero) (suc (suc q)) hp hq = absurd (omega arith)
differ_small (suc (suc p)) q hp hq = absurd (omega arith)

abbrev pub unlike : Bool → Bool → Bool
unlike true b = not b
unlike false b = b

pub has_join : (a b i : ℕ) → has (join a b) i ≡ (has a i || has b i)
has_join = has_op bit_or max ◌||◌ or_shr or_step (λ p q hp hq. omega arith) (digit max ◌||◌ refl refl refl refl)

pub has_meet : (a b i : ℕ) → has (meet a b) i ≡ (has a i && has b i)
has_meet = has_op bit_and min ◌&&◌ and_shr and_step (λ p q hp hq. omega arith) (digit min ◌&&◌ refl refl refl refl)

pub has_xor : (a b i : ℕ) → has (bit_xor a b) i ≡ unlike (has a i) (has b i)
has_xor = has_op bit_xor differ unlike xor_shr xor_step differ_small (digit differ unlike refl refl refl refl)

minus : (p q : Bool) → unlike p (p && q) ≡ (p && not q)
minus true q = refl
minus false q = refl

pub has-without : (a b i : ℕ) → has (without a b) i ≡ (has a i && not (has b i))
has-without a b i = has_xor a (bit_and a b) i ∙ ap (unlike (has a i)) (has_meet a b i) ∙ minus (has a i) (has b i)

-- two masks with the same rights are one
module _ where
  bit : ℕ → ℕ → ℕ
  bit m i = m / 2 ^ i % 2

  bit-zero : (m : ℕ) → bit m 0 ≡ m % 2
  unfolding bit
  bit-zero m = ap (λ (n : ℕ). n % 2) (div-one m)

  bit_suc : (m i : ℕ) → bit (m / 2) i ≡ bit m (suc i)
  unfolding bit
  bit_suc m i = ap (λ (n : ℕ). n % 2) (div-div-eq-div-mul m 2 (2 ^ i) ∙ ap (λ (n : ℕ). m / n) (sym (pow-succ' 2 i)))

  from_has : (a b i : ℕ) → has a i ≡ has b i → bit a i ≡ bit b i
  unfolding bit has
  from_has a b i e = same (a / 2 ^ i % 2) (b / 2 ^ i % 2) (omega arith) (omega arith) e
    where
      same : (p q : ℕ) → p < 2 → q < 2 → eqb p 1 ≡ eqb q 1 → p ≡ q
      same zero zero hp hq e = refl
      same zero (suc zero) hp hq e = cc
      same zero (suc (suc q)) hp hq e = absurd (omega arith)
      same (suc zero) zero hp hq e = cc
      same (suc zero) (suc zero) hp hq e = refl
      same (suc zero) (suc (suc q)) hp hq e = absurd (omega arith)
      same (suc (suc p)) q hp hq e = absurd (omega arith)

  ext_bit : (a b : ℕ) → ((i : ℕ) → bit a i ≡ bit b i) → a ≡ b
  ext_bit =
      bin_ind (λ (n : ℕ). (b : ℕ) → ((i : ℕ) → bit n i ≡ bit b i) → n ≡ b)
      (bin_ind (λ (n : ℕ). ((i : ℕ) → bit zero i ≡ bit n i) → zero ≡ n) (λ h. refl)
      (λ n ih h. let e : zero ≡ n / 2 = ih (λ i. bit_suc zero i ∙ h (suc i) ∙ sym (bit_suc n i)) in
      let l : zero ≡ n % 2 = sym (bit-zero zero) ∙ h 0 ∙ bit-zero n in omega arith))
      (λ n ih b h. let e : n / 2 ≡ b / 2 = ih (b / 2) (λ i. bit_suc n i ∙ h (suc i) ∙ sym (bit_suc b i)) in
      let l : n % 2 ≡ b % 2 = sym (bit-zero n) ∙ h 0 ∙ bit-zero b in omega arith)

pub ext_has : (a b : ℕ) → ((i : ℕ) → has a i ≡ has b i) → a ≡ b
ext_has a b h = ext_bit a b (λ i. from_has a b i (h i))

-- containment, right by right
pub within_has : (a b i : ℕ) → within a b ≡ true → has a i ≡ true → has b i ≡ true
within_has a b i w h = and_l (has b i) (has a i) (sym (has_meet b a i) ∙ ap (λ (m : ℕ). has m i) (eqb-true (meet b a) a w) ∙ h)

pub has_within : (a b : ℕ) → ((i : ℕ) → has a i ≡ true → has b i ≡ true) → within a b ≡ true
has_within a b h = eq-eqb (meet b a) a (ext_has (meet b a) a (λ i. has_meet b a i ∙ absorb (has b i) (has a i) (h i)))
  where
    absorb : (p q : Bool) → (q ≡ true → p ≡ true) → (p && q) ≡ q
    absorb true q k = refl
    absorb false true k = k refl
    absorb false false k = refl

-- ---- the set of one right, and a right of a set
no_bit : (i : ℕ) → bit 0 i ≡ 0
unfolding bit
no_bit i = rw zero-div refl

half : (j : ℕ) → 2 ^ suc j / 2 ≡ 2 ^ j
half j = let p = pow-succ' 2 j in omega arith

own-bit : (j : ℕ) → bit (2 ^ j) j ≡ 1
own-bit zero = bit-zero 1
own-bit (suc j) = sym (bit_suc (2 ^ suc j) j) ∙ ap (λ (n : ℕ). bit n j) (half j) ∙ own-bit j

other-bit : (j i : ℕ) → (i ≡ j → ⊥) → bit (2 ^ j) i ≡ 0
other-bit zero zero d = absurd (d refl)
other-bit zero (suc i) d = sym (bit_suc 1 i) ∙ no_bit i
other-bit (suc j) zero d = bit-zero (2 ^ suc j) ∙ (let p = pow-succ' 2 j in omega arith)
other-bit (suc j) (suc i) d = sym (bit_suc (2 ^ suc j) i) ∙ ap (λ (n : ℕ). bit n i) (half j) ∙ other-bit j i (λ e. d (ap suc e))

pub has-only : (j i : ℕ) → has (only j) i ≡ eqb i j
unfolding has bit
has-only j i = split (eqb i j)
    (λ q. ap (λ (k : ℕ). has (2 ^ j) k) (eqb-true i j q) ∙ eq-eqb (2 ^ j / 2 ^ j % 2) 1 (own-bit j) ∙ sym q)
    (λ q. ap (λ (n : ℕ). eqb n 1) (other-bit j i (eqb-false i j q)) ∙ sym q)

pub has-none : (i : ℕ) → has 0 i ≡ false
unfolding has bit
has-none i = ap (λ (n : ℕ). eqb n 1) (no_bit i)

pub some-bit : (m : ℕ) → (m ≡ 0 → ⊥) → (i : ℕ) × (has m i ≡ true)
unfolding has bit
some-bit =
    bin_ind (λ (n : ℕ). (n ≡ 0 → ⊥) → (i : ℕ) × (has n i ≡ true)) (λ d. absurd (d refl))
    (λ n ih d. split (eqb (n % 2) 1)
    (λ q. (0, ap (λ (k : ℕ). eqb k 1) (bit-zero n) ∙ q))
    (λ q.
    let o = eqb-false (n % 2) 1 q in
    let s = ih (λ e. d (omega arith)) in
    (suc s.0, ap (λ (k : ℕ). eqb k 1) (sym (bit_suc n s.0)) ∙ s.1)))

-- a join is within what both sets are within, and not empty
pub within-join : (a b m : ℕ) → within a m ≡ true → within b m ≡ true → within (join a b) m ≡ true
within-join a b m p q = has_within (join a b) m (λ i h. either (or_cases (has a i) (has b i) (sym (has_join a b i) ∙ h)) (within_has a m i p) (within_has b m i q))

pub join-some : (a b : ℕ) → (a ≡ 0 → ⊥) → join a b ≡ 0 → ⊥
join-some a b d e =
    let s = some-bit a d in
    let i = s.0 in
    clash (has (join a b) i) (has_join a b i ∙ or_left (has a i) (has b i) s.1) (ap (λ (m : ℕ). has m i) e ∙ has-none i)
