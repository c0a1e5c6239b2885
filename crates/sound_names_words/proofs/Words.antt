-- A word has one sequence of bytes. Assumes nothing.
use mathlib.Core.Path.{◌≡◌}
use mathlib.Core.List.{List}
use Prim.Native.Nat.{ℕ, zero, suc, ◌+◌, ◌*◌, ◌<◌}
use native.Mathlib.Nat.{add-zero}
use native.Mathlib.Numerals.{add-one, add-two, add-three, add-four, add_five, add_six, add_seven}
use native.Mathlib.Omega.{arith}
use lib.ListN.{get_or}
use Rattle.sound_names_words.specs.Words.{byte_end, Bytes, number_at, word_bytes, word_at}

-- the lowest byte and the rest, told from their number
low : (a b x y : ℕ) → a < byte_end → b < byte_end → a + byte_end * x ≡ b + byte_end * y → a ≡ b
low a b x y p q e = omega arith

rest : (a b x y : ℕ) → a < byte_end → b < byte_end → a + byte_end * x ≡ b + byte_end * y → x ≡ y
rest a b x y p q e = omega arith

module _ (xs ys : List ℕ) (X : Bytes xs) (Y : Bytes ys) where
  number-bytes : (n i j : ℕ) → number_at xs i n ≡ number_at ys j n → (k : ℕ) → k < n → get_or xs (i + k) 0 ≡ get_or ys (j + k) 0
  unfolding number_at
  number-bytes zero i j e k l = absurd (omega arith)
  number-bytes (suc n) i j e zero l =
      let a = add-zero i in
      let b = add-zero j in
      rw (a, b) (low (get_or xs i 0) (get_or ys j 0) (number_at xs (suc i) n) (number_at ys (suc j) n) (X i) (Y j) e)
  number-bytes (suc n) i j e (suc k) l =
      let a : i + suc k ≡ suc i + k = omega arith in
      let b : j + suc k ≡ suc j + k = omega arith in
      rw (a, b) (number-bytes n (suc i) (suc j) (rest (get_or xs i 0) (get_or ys j 0) (number_at xs (suc i) n) (number_at ys (suc j) n) (X i) (Y j) e) k (omega arith))

  -- words that are equal have equal bytes
  pub word_bytes_lem : (i j : ℕ) → word_at xs i ≡ word_at ys j → (k : ℕ) → k < word_bytes → get_or xs (i + k) 0 ≡ get_or ys (j + k) 0
  unfolding word_at
  word_bytes_lem i j e k l = number-bytes word_bytes i j e k l

-- a word as the code sums it
sum_word : (xs : List ℕ) (i : ℕ) → get_or xs i 0 + get_or xs (i + 1) 0 * 256 + get_or xs (i + 2) 0 * 65536 + get_or xs (i + 3) 0 * 16777216 + get_or xs (i + 4) 0 * 4294967296
    + get_or xs (i + 5) 0 * 1099511627776 + get_or xs (i + 6) 0 * 281474976710656 + get_or xs (i + 7) 0 * 72057594037927936 ≡ word_at xs i
unfolding word_at number_at
sum_word xs i = simp (add-one, add-two, add-three, add-four, add_five, add_six, add_seven) (omega arith)

pub word_is : (xs : List ℕ) (i : ℕ) {a b c d e f g h : ℕ} → a ≡ get_or xs i 0 → b ≡ get_or xs (i + 1) 0 → c ≡ get_or xs (i + 2) 0 → d ≡ get_or xs (i + 3) 0 → e ≡ get_or xs (i + 4) 0
    → f ≡ get_or xs (i + 5) 0 → g ≡ get_or xs (i + 6) 0 → h ≡ get_or xs (i + 7) 0
    → a + b * 256 + c * 65536 + d * 16777216 + e * 4294967296 + f * 1099511627776 + g * 281474976710656 + h * 72057594037927936 ≡ word_at xs i
word_is xs i p q r s t u v w = rw (p, q, r, s, t, u, v, w) (sum_word xs i)
