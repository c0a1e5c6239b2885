-- Names of rulesets in buckets. The laws hold for any function of the name.
use Rattle.std.specs.Prelude.{◌≡◌, List, [], ◌∷◌, ℕ, ◌+◌, ◌*◌, ◌%◌, length, get_or}
use Rattle.laws.specs.Cells.{part}
use Rattle.policy.specs.Fields.{pieces}
use Rattle.policy.specs.Files.{opens, first_place, place_of}

abbrev pub buckets : ℕ
buckets = 16381

unfoldable pub bucket_from : ℕ → List ℕ → ℕ
bucket_from h [] = h
bucket_from h (b ∷ bs) = bucket_from ((h * 256 + b) % buckets) bs

-- the bucket of a name
abbrev pub bucket_of : List ℕ → ℕ
bucket_of name = bucket_from 0 name

-- no ruleset before `at` has a name whose bucket is empty: the first of that name is the first from there on
pub record Indexed (f seen : List ℕ) (at : ℕ) : Type 0 where
  pub size : length seen ≡ buckets
  pub later : (name : List ℕ) → get_or seen (bucket_of name) 0 ≡ 0 → place_of f name ≡ first_place (opens name) at (pieces (part f at (length f)))
