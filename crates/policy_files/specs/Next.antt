-- What the reader of a file tells of one field.
use Rattle.std.specs.Prelude.{◌≡◌, Bool, ◌&&◌, List, ℕ, eqb, length}
use Rattle.laws.specs.Cells.{part}
use Rattle.policy.specs.Fields.{masks_tag, pieces, front}
use Rattle.policy.specs.Files.{masks_size, allowed}
use Rattle.policy.specs.declared.Read.{Read}
use Rattle.policy.specs.declared.Read.TheVariants.{Next, Fault}
use Rattle.policy_names.specs.Buckets.{buckets, Indexed}

-- the field at a place, after one with the tag `before`
abbrev pub allowed_at : List ℕ → ℕ → ℕ → Read
allowed_at f before at = allowed f before at (front (pieces (part f at (length f))))

-- a field with the tag t and a value of n bytes gives a ruleset's masks
unfoldable pub is_masks_of : ℕ → ℕ → Bool
is_masks_of t n = eqb t masks_tag && eqb n masks_size

-- the buckets behind a field that is fine
abbrev pub IndexedAfter : List ℕ → List ℕ → Read → Type 0
IndexedAfter f seen (Next n) = Indexed f seen n
IndexedAfter f seen (Fault p) = length seen ≡ buckets
