-- Request W4: what a name means in two files. "There are two files, stock and site".
use Rattle.std.specs.Prelude.{Bool, cond, List, [], ℕ, ◌+◌, eqb, ltb, length}
use Rattle.laws.specs.Cells.{part}
use Rattle.policy.specs.Fields.{ruleset_tag, header, Piece, tag_of, pieces}
use Rattle.policy.specs.Files.{first_place, place_of, read_file}
use Rattle.policy.specs.declared.Read.{Read}
use Rattle.policy.specs.declared.Read.TheVariants.{Next, Fault}
use Rattle.policy.specs.declared.Span.{Span}
use Rattle.policy.specs.declared.File.{File}
use Rattle.policy.specs.declared.File.TheVariants.{Stock, Site}
use Rattle.policy.specs.declared.Found.{Found}
use Rattle.policy.specs.declared.Found.TheVariants.{At, TooBig, Damaged, Missing}

-- "An empty file is fine; one over 32,768 bytes is E2BIG"
abbrev pub max_file : ℕ
max_file = 32768

unfoldable pub is_opening : Piece → Bool
is_opening p = eqb (tag_of p) ruleset_tag

-- the place of the next ruleset at or after a place; the file's length if there is none
abbrev pub next_ruleset : List ℕ → ℕ → ℕ
next_ruleset f from = first_place is_opening from (pieces (part f from (length f)))

-- the ruleset's part of "the file it stands in, from its tag 1 up to the next ruleset or the file's end"
unfoldable pub span_of : List ℕ → List ℕ → ℕ → Span
span_of f name at = record { at = at; end = next_ruleset f (at + header + length name) }

-- "Both files are read whole first; damage in either is reported with its file"
unfoldable pub whole : File → Read → Found → Found
whole file (Next n) rest = rest
whole file (Fault p) rest = Damaged file p

unfoldable pub checked : File → List ℕ → Found → Found
checked file f rest = cond (ltb max_file (length f)) (TooBig file) (whole file (read_file f) rest)

-- the file's ruleset of the name, if it has one
unfoldable pub has_or : File → List ℕ → List ℕ → Found → Found
has_or file f name rest = cond (ltb (place_of f name) (length f)) (At file (span_of f name (place_of f name))) rest

-- "stock first"; "a name means the site's ruleset if it has one, otherwise the stock's", "Neither has it: ENOENT"
unfoldable pub found : List ℕ → List ℕ → List ℕ → Found
found stock site name = checked Stock stock (checked Site site (has_or Site site name (has_or Stock stock name Missing)))

-- the file's bytes
unfoldable pub bytes_in : List ℕ → List ℕ → File → List ℕ
bytes_in stock site Stock = stock
bytes_in stock site Site = site

-- what the caller gets: that part "of the file it stands in .. (empty when refused)"
unfoldable pub part_of : List ℕ → List ℕ → Found → List ℕ
part_of stock site (At file s) = part (bytes_in stock site file) s.at s.end
part_of stock site (TooBig file) = []
part_of stock site (Damaged file p) = []
part_of stock site Missing = []
