-- Request W4: "Each field is a one-byte tag and a two-byte little-endian length, then the value". A list of bytes as fields.
use Rattle.std.specs.Prelude.{cond, List, [], ◌∷◌, ℕ, zero, suc, ◌+◌, ◌*◌, ◌/◌, ◌%◌, leb, length, get_or, take, drop}

-- "Tag 1 opens a ruleset", "tag 2 gives its three masks", "tag 3 a path rule", "tag 4 a port rule", "Tag 5 is a group"
abbrev pub ruleset_tag : ℕ
ruleset_tag = 1

abbrev pub masks_tag : ℕ
masks_tag = 2

abbrev pub path_tag : ℕ
path_tag = 3

abbrev pub port_tag : ℕ
port_tag = 4

abbrev pub group_tag : ℕ
group_tag = 5

-- the tag and the two bytes of length
abbrev pub header : ℕ
header = 3

-- and the level of a group
abbrev pub group_header : ℕ
group_header = 4

-- "little-endian": n bytes of a number, the lowest first
unfoldable pub bytes_of : ℕ → ℕ → List ℕ
bytes_of zero x = []
bytes_of (suc n) x = x % 256 ∷ bytes_of n (x / 256)

-- a whole field, by its tag and its value; or the bytes at the end that are none
pub data Piece : Type 0 where
  field : ℕ → List ℕ → Piece
  stray : List ℕ → Piece

-- how many bytes it takes
unfoldable pub size : Piece → ℕ
size (field t v) = length v + header
size (stray s) = length s

-- its tag, which is the first byte of one that is no whole field too
unfoldable pub tag_of : Piece → ℕ
tag_of (field t v) = t
tag_of (stray s) = get_or s 0 0

-- bytes cut into fields; n is at least how many there are
unfoldable pub cut : ℕ → List ℕ → List Piece
cut zero xs = []
cut (suc n) [] = []
cut (suc n) (t ∷ []) = stray (t ∷ []) ∷ []
cut (suc n) (t ∷ a ∷ []) = stray (t ∷ a ∷ []) ∷ []
cut (suc n) (t ∷ a ∷ b ∷ xs) =
    let k = a + 256 * b in
    let rest = cut n (drop k xs) in
    cond (leb k (length xs)) (field t (take k xs) ∷ rest) (stray (t ∷ a ∷ b ∷ xs) ∷ [])

unfoldable pub pieces : List ℕ → List Piece
pieces xs = cut (length xs) xs

-- the first of them
unfoldable pub front : List Piece → Piece
front [] = stray []
front (p ∷ ps) = p
