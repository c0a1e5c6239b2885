-- Bytes written one after another, and a turn of each loop. Assumes nothing.
use mathlib.Core.Path.{◌≡◌, refl, ap, ◌∙◌}
use mathlib.Core.List.{List, [], ◌∷◌, ◌++◌}
use Prim.Native.Nat.{ℕ, zero, suc, ◌+◌, ◌-◌, ◌/◌, ◌%◌, ◌≤◌, ◌<◌}
use native.Mathlib.Omega.{arith}
use native.Mathlib.Numerals.{add-one}
use lib.ListN.{length, get_or, drop, set, drop_of_length-le}
use lib.Seq.{sets, drop-cons, set_comm}
use Rattle.policy.specs.Fields.{bytes_of}

pub length-bytes : (n x : ℕ) → length (bytes_of n x) ≡ n
unfolding bytes_of
length-bytes zero x = refl
length-bytes (suc n) x = ap suc (length-bytes n (x / 256))

pub sets_append : (l : List ℕ) (i : ℕ) (vs ws : List ℕ) → sets l i (vs ++ ws) ≡ sets (sets l i vs) (i + length vs) ws
sets_append l i [] ws = let e : i ≡ i + 0 = omega arith in ap (λ (k : ℕ). sets l k ws) e
sets_append l i (v ∷ vs) ws = let e : suc i + length vs ≡ i + suc (length vs) = omega arith in sets_append (set l i v) (suc i) vs ws ∙ ap (λ (k : ℕ). sets (sets (set l i v) (suc i) vs) k ws) e

-- a turn of each loop
pub number-start : (l : List ℕ) (at x n : ℕ) → sets l at (bytes_of n x) ≡ sets l (at + 0) (bytes_of (n - 0) x)
number-start l at x n = let a : at + 0 ≡ at = omega arith in let b : n - 0 ≡ n = omega arith in rw (a, b)

pub number-turn : (l : List ℕ) (at x n i : ℕ) → i < n → sets l (at + i) (bytes_of (n - i) x) ≡ sets (set l (at + i) (x % 256)) (at + (i + 1)) (bytes_of (n - (i + 1)) (x / 256))
unfolding bytes_of
number-turn l at x n i h =
    let a : n - i ≡ suc (n - (i + 1)) = omega arith in
    let b : suc (at + i) ≡ at + (i + 1) = omega arith in
    rw a (ap (λ (k : ℕ). sets (set l (at + i) (x % 256)) k (bytes_of (n - (i + 1)) (x / 256))) b)

pub number-done : (l : List ℕ) (at x n i : ℕ) → n ≤ i → sets l (at + i) (bytes_of (n - i) x) ≡ l
unfolding bytes_of
number-done l at x n i h = let a : n - i ≡ 0 = omega arith in rw a

pub bytes-start : (l : List ℕ) (at : ℕ) (vs : List ℕ) → sets l at vs ≡ sets l (at + 0) (drop 0 vs)
bytes-start l at vs = let a : at ≡ at + 0 = omega arith in ap (λ (k : ℕ). sets l k vs) a

pub bytes-turn : (l : List ℕ) (at : ℕ) (vs : List ℕ) (i : ℕ) → i < length vs → sets l (at + i) (drop i vs) ≡ sets (set l (at + i) (get_or vs i 0)) (at + (i + 1)) (drop (i + 1) vs)
bytes-turn l at vs i h =
    let b : suc (at + i) ≡ at + (i + 1) = omega arith in
    rw (drop-cons vs i 0 h, add-one) (ap (λ (k : ℕ). sets (set l (at + i) (get_or vs i 0)) k (drop (suc i) vs)) (b ∙ rw add-one))

pub bytes-done : (l : List ℕ) (at : ℕ) (vs : List ℕ) (i : ℕ) → length vs ≤ i → sets l (at + i) (drop i vs) ≡ l
bytes-done l at vs i h = rw (drop_of_length-le vs h)

-- what is written before another part, up to it
set_before : (l : List ℕ) (i at c : ℕ) (vs : List ℕ) → i < at → set (sets l at vs) i c ≡ sets (set l i c) at vs
set_before l i at c [] h = refl
set_before l i at c (v ∷ vs) h = set_before (set l at v) i (suc at) c vs (omega arith) ∙ ap (λ (x : List ℕ). sets x (suc at) vs) (set_comm l at i v c (λ e. omega arith))

pub sets_before : (l : List ℕ) (i at : ℕ) (vs ws : List ℕ) → i + length vs ≡ at → sets (sets l at ws) i vs ≡ sets l i (vs ++ ws)
sets_before l i at [] ws h = let e : at ≡ i = omega arith in ap (λ (k : ℕ). sets l k ws) e
sets_before l i at (v ∷ vs) ws h =
    ap (λ (x : List ℕ). sets x (suc i) vs) (set_before l i at v ws (omega arith)) ∙ sets_before (set l i v) (suc i) at vs ws (omega arith)

-- a field's tag and length
pub header_put : (l : List ℕ) (at a b c : ℕ) → set (set (set l at a) (at + 1) b) (at + 2) c ≡ sets l at (a ∷ b ∷ c ∷ [])
header_put l at a b c =
    let i : at + 1 ≡ suc at = omega arith in
    let j : at + 2 ≡ suc (suc at) = omega arith in
    rw (i, j) refl
