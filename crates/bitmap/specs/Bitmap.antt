-- Flags in words of 64: flag i is bit i % 64 of word i / 64. A word that is not there has no flag set.
use Rattle.std.specs.Prelude.{◌≡◌, Bool, true, false, not, ◌&&◌, ◌||◌, List, ℕ, ◌+◌, ◌-◌, ◌*◌, ◌/◌, ◌%◌, ◌^◌, ltb, leb, get_or, set}
use Rattle.laws.specs.Tests.{all_below}
use Rattle.access.specs.Rights.{has, join, only}

-- flag i is set
unfoldable pub flag : List ℕ → ℕ → Bool
flag ws i = has (get_or ws (i / 64) 0) (i % 64)

-- the words with the bits of the mask m set in word w
abbrev pub with_bits : List ℕ → ℕ → ℕ → List ℕ
with_bits ws w m = set ws w (join (get_or ws w 0) m)

-- the words with flag i set
abbrev pub with_flag : List ℕ → ℕ → List ℕ
with_flag ws i = with_bits ws (i / 64) (only (i % 64))

-- the mask of n bits from bit s on
abbrev pub ones : ℕ → ℕ → ℕ
ones s n = (2 ^ n - 1) * 2 ^ s

-- p is one of the n places from `first` on
abbrev pub in_range : ℕ → ℕ → ℕ → Bool
in_range first n p = leb first p && ltb p (first + n)

-- no flag of a run is set
abbrev pub run_clear : List ℕ → ℕ → ℕ → Bool
run_clear ws first count = all_below (λ k. not (flag ws (first + k))) count

-- a run that was asked for: r tells whether its flags were clear; then they are set, else nothing changes
pub record RunTaken (before after : List ℕ) (first count : ℕ) (r : Bool) : Type 0 where
  pub answer : r ≡ run_clear before first count
  pub taken : r ≡ true → (p : ℕ) → flag after p ≡ (flag before p || in_range first count p)
  pub refused : r ≡ false → after ≡ before
