-- Laws of the number that bytes make, for the loop that reads it from its last byte on. Assumes nothing.
use mathlib.Core.Path.{◌≡◌, refl, ap, ◌∙◌}
use mathlib.Core.List.{List}
use Prim.Native.Nat.{ℕ, zero, suc, ◌+◌, ◌-◌, ◌*◌, ◌^◌, ◌≤◌, ◌<◌}
use native.Mathlib.Nat.{pow-succ', pow-le-pow_right}
use native.Mathlib.Numerals.{add-one}
use native.Mathlib.Omega.{arith}
use lib.ListN.{length, get_or}
use Rattle.laws.proofs.Cells.{past}
use Rattle.ruleset.specs.Attribute.{number}

-- past the end
pub number_past : (bs : List ℕ) (at n : ℕ) → length bs ≤ at → 0 ≡ number bs at n
unfolding number
number_past bs at zero h = refl
number_past bs at (suc n) h = let a = past bs at h in let b = number_past bs (suc at) n (omega arith) in omega arith

-- the loop's start, its turn and its end
pub number-none : (bs : List ℕ) (at : ℕ) → 0 ≡ number bs at 0
unfolding number
number-none bs at = refl

pub number_more : (bs : List ℕ) (at n v b : ℕ) → n < 8 → v ≡ number bs (at + (8 - n)) n → b ≡ get_or bs (at + (7 - n)) 0 → b + 256 * v ≡ number bs (at + (8 - (n + 1))) (n + 1)
unfolding number
number_more bs at n v b h p q =
    let e : at + (8 - (n + 1)) ≡ at + (7 - n) = omega arith in
    let f : at + (8 - n) ≡ suc (at + (7 - n)) = omega arith in
    let g : v ≡ number bs (suc (at + (7 - n))) n = p ∙ ap (λ (k : ℕ). number bs k n) f in
    rw (e, add-one n, q, g) refl

pub number-done : (bs : List ℕ) (at n v : ℕ) → n ≡ 8 → v ≡ number bs (at + (8 - n)) n → v ≡ number bs at 8
number-done bs at n v e p = let f : at + (8 - n) ≡ at = omega arith in p ∙ ap (λ (k : ℕ). number bs k n) f ∙ ap (number bs at) e

-- n bytes make a number below 256 ^ n
pub grows : (n v b : ℕ) → v < 256 ^ n → b < 256 → b + 256 * v < 256 ^ (n + 1)
grows n v b h k = let e : 256 ^ (n + 1) ≡ 256 * 256 ^ n = ap (λ (m : ℕ). 256 ^ m) (add-one n) ∙ pow-succ' 256 n in omega arith

pub fits : (n v b : ℕ) → n < 8 → v < 256 ^ n → b < 256 → b + 256 * v < 2 ^ 64
fits n v b l h k =
    let g = grows n v b h k in
    let m : 256 ^ (n + 1) ≤ 256 ^ 8 = pow-le-pow_right {n = 256} (omega arith) {i = n + 1} {j = 8} (omega arith) in
    omega arith
