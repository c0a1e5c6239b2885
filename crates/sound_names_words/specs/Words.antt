-- Bytes read by words: eight of them as one number.
use Rattle.std.specs.Prelude.{List, ℕ, zero, suc, ◌+◌, ◌*◌, ◌<◌, get_or}

-- what a byte is below
abbrev pub byte_end : ℕ
byte_end = 256

abbrev pub Bytes : List ℕ → Type 0
Bytes xs = (i : ℕ) → get_or xs i 0 < byte_end

-- the n bytes from i on, the first the lowest
unfoldable pub number_at : List ℕ → ℕ → ℕ → ℕ
number_at xs i zero = 0
number_at xs i (suc n) = get_or xs i 0 + byte_end * number_at xs (suc i) n

abbrev pub word_bytes : ℕ
word_bytes = 8

-- the words of a row but its last byte
abbrev pub words : ℕ
words = 6

unfoldable pub word_at : List ℕ → ℕ → ℕ
word_at xs i = number_at xs i word_bytes
