-- The fold of a directory and a row, and its bucket. The laws hold for any function of the two.
use Rattle.std.specs.Prelude.{List, ℕ, ◌*◌, ◌/◌, ◌%◌, ◌^◌}
use Rattle.std.specs.Int.Bits.{bit_or, bit_xor}
use Rattle.tables.specs.Tables.{parent}
use Rattle.names.specs.Names.{row_at}
use Rattle.sound_names_words.specs.Words.{word_at}

abbrev pub buckets : ℕ
buckets = 4096

-- the fold w, turned by 19 of its 64 bits, with the next word
unfoldable pub turned : ℕ → ℕ → ℕ
turned w x = bit_xor (bit_or (w * 2 ^ 19 % 2 ^ 64) (w / 2 ^ 45)) x

unfoldable pub folded : ℕ → List ℕ → ℕ
folded p row = turned (turned (turned (turned (turned (turned p (word_at row 1)) (word_at row 9)) (word_at row 17)) (word_at row 25)) (word_at row 33)) (word_at row 41)

-- what the halves of a fold are below, and what spreads each over the bits of a word
abbrev half : ℕ
half = 2 ^ 32

abbrev low_factor : ℕ
low_factor = 2654435761

abbrev high_factor : ℕ
high_factor = 2246822519

-- the bucket of a fold
unfoldable pub bucket_of : ℕ → ℕ
bucket_of w = let m = bit_xor (w % half * low_factor) (w / half * high_factor) in bit_xor m (m / half) % buckets

-- the bucket of entry e
unfoldable pub bucket_at : List ℕ → List ℕ → ℕ → ℕ
bucket_at es ns e = bucket_of (folded (parent es e) (row_at ns e))
