-- Document 01, "Create takes attribute bytes and flags: three little-endian 64-bit masks". Missing bytes count as zero.
use Rattle.std.specs.Prelude.{Bool, cond, not, ◌&&◌, List, ℕ, zero, suc, ◌+◌, ◌*◌, eqb, leb, length, get_or}
use Rattle.laws.specs.Tests.{any_below}

-- the number that n bytes from `at` on make, the lowest first
unfoldable pub number : List ℕ → ℕ → ℕ → ℕ
number bs at zero = 0
number bs at (suc n) = get_or bs at 0 + 256 * number bs (suc at) n

abbrev pub fs_mask : List ℕ → ℕ
fs_mask bs = number bs 0 8

abbrev pub net_mask : List ℕ → ℕ
net_mask bs = number bs 8 8

abbrev pub scope_mask : List ℕ → ℕ
scope_mask bs = number bs 16 8

-- "Known size is 8 at levels 1 to 3, 16 at 4 and 5, 24 at 6"
unfoldable pub known_size : ℕ → ℕ
known_size level = cond (leb level 3) 8 (cond (leb level 5) 16 24)

-- byte i is past the known size and not zero
unfoldable pub stray_byte : List ℕ → ℕ → ℕ → Bool
stray_byte bs known i = leb known i && not (eqb (get_or bs i 0) 0)

-- "a nonzero byte past the known size"
unfoldable pub stray : List ℕ → ℕ → Bool
stray bs known = any_below (stray_byte bs known) (length bs)
