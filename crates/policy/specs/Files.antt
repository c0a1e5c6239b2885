-- Request W4: which files are fine, and where the first faulty field of another one is.
use Rattle.std.specs.Prelude.{Bool, false, cond, ◌&&◌, List, [], ◌∷◌, ℕ, ◌+◌, eqb, leb, length}
use Rattle.names.specs.Names.{same_bytes}
use Rattle.policy.specs.Fields.{ruleset_tag, masks_tag, Piece, field, stray, size, tag_of, pieces}
use Rattle.policy.specs.Grammar.{max_depth, and_then, tested, rule}
use Rattle.policy.specs.declared.Read.{Read}
use Rattle.policy.specs.declared.Read.TheVariants.{Next, Fault}

-- "a name of 1 to 32 bytes"
abbrev pub max_ruleset_name : ℕ
max_ruleset_name = 32

-- "its three masks (24 bytes)"
abbrev pub masks_size : ℕ
masks_size = 24

-- "Tag 1 opens a ruleset": one of this name
unfoldable pub opens : List ℕ → Piece → Bool
opens name (field t v) = eqb t ruleset_tag && same_bytes name v
opens name (stray s) = false

-- the place of the first piece that passes a test, among those that start at `at`; their end if none does
unfoldable pub first_place : (Piece → Bool) → ℕ → List Piece → ℕ
first_place test at [] = at
first_place test at (p ∷ ps) = let r = first_place test (at + size p) ps in cond (test p) at r

-- where a file's ruleset of a name starts; the file's length if it has none
abbrev pub place_of : List ℕ → List ℕ → ℕ
place_of f name = first_place (opens name) 0 (pieces f)

-- "a name of 1 to 32 bytes, unique in the file": no ruleset before this place has it
unfoldable pub is_name : List ℕ → ℕ → Piece → Bool
is_name f at (field t v) = leb 1 (length v) && (leb (length v) max_ruleset_name && eqb (place_of f v) at)
is_name f at (stray s) = false

-- "tag 2 gives its three masks (24 bytes)"
unfoldable pub is_masks : Piece → Bool
is_masks (field t v) = eqb t masks_tag && eqb (length v) masks_size
is_masks (stray s) = false

-- The field at a place, after one with the tag `before`, 0 at the file's start. "Tag 2 follows tag 1 at once, rules follow it"; groups "stand only where
-- a rule may". "Anything else is EBADMSG (74) with the place of the first faulty field's tag".
unfoldable pub allowed : List ℕ → ℕ → ℕ → Piece → Read
allowed f before at p =
    cond (eqb before ruleset_tag) (tested (is_masks p) at p)
    (cond (eqb (tag_of p) ruleset_tag) (tested (is_name f at p) at p)
    (cond (eqb before 0) (Fault at) (rule max_depth at p)))

-- "the end of the file ends the last ruleset"; "or the file's length if only a last tag 2 is missing"
unfoldable pub read_from : List ℕ → ℕ → ℕ → List Piece → Read
read_from f before at [] = cond (eqb before ruleset_tag) (Fault at) (Next at)
read_from f before at (p ∷ ps) = let r = read_from f (tag_of p) (at + size p) ps in and_then (allowed f before at p) r

-- a whole file: fine up to its end, or the place of its first fault
unfoldable pub read_file : List ℕ → Read
read_file f = read_from f 0 0 (pieces f)
