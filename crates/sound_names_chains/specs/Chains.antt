-- An index of the entries that have a name: a chain for each bucket.
use Rattle.std.specs.Prelude.{◌≡◌, Bool, true, false, ◌&&◌, List, ℕ, ◌+◌, ◌<◌, length, get_or}
use Rattle.laws.specs.Tests.{all_below}
use Rattle.access.specs.Limits.{max_entries}
use Rattle.names.specs.Names.{is_named, row_sound, unlike, names_sound}
use Rattle.sound_names_walk.specs.Fold.{buckets, bucket_at}
use Rattle.sound_names_walk.specs.Walks.{On, Nodes}
use Rattle.sound_names_walk.specs.declared.Walked.{Walked}
use Rattle.sound_names_walk.specs.declared.Walked.TheVariants.{Missing, Found}
use Rattle.sound_names_chains.specs.declared.Tested.{Tested}
use Rattle.sound_names_chains.specs.declared.Tested.TheVariants.{Left, Unsound}
use Rattle.sound_names_chains.specs.declared.Answer.{Answer}
use Rattle.sound_names_chains.specs.declared.Answer.TheVariants as answer

-- the index of the entries below n
pub record ChainedBelow (es ns heads links : List ℕ) (n : ℕ) : Type 0 where
  pub size : length heads ≡ buckets
  pub long : length links ≡ max_entries
  pub firsts : Nodes es heads n
  pub nexts : Nodes es links n
  pub held : (f : ℕ) → f < n → is_named es f ≡ true → On links (get_or heads (bucket_at es ns f) 0) f

-- the index of all entries, whose names are sound
abbrev pub Indexed : List ℕ → List ℕ → List ℕ → List ℕ → Type 0
Indexed es ns heads links = (names_sound es ns ≡ true) × ChainedBelow es ns heads links max_entries

-- an index of which it is known whether it is whole
abbrev pub IndexedIf : Bool → List ℕ → List ℕ → List ℕ → List ℕ → Type 0
IndexedIf whole es ns heads links = whole ≡ true → Indexed es ns heads links

-- what a walk tells of the entry whose row it looked for
abbrev pub tested_by : Walked → Tested
tested_by (Missing n) = Left n
tested_by (Found f) = Unsound

-- what the test of entry e tells, which goes into the index: only of its row if no step is left, or none was
unfoldable pub IsAdded : List ℕ → List ℕ → List ℕ → List ℕ → ℕ → ℕ → Tested → Type 0
IsAdded es ns heads links steps e (Left n) = (row_sound es ns e ≡ true) × ((n ≡ 0 → ⊥) → ((steps ≡ 0 → ⊥) × (unlike es ns e ≡ true)) × ChainedBelow es ns heads links (e + 1))
IsAdded es ns heads links steps e Unsound = (row_sound es ns e && unlike es ns e) ≡ false

-- what the test of all names tells: if they are sound, the index has them all; if the steps did not suffice, their rows are sound
unfoldable pub IsTold : List ℕ → List ℕ → List ℕ → List ℕ → Answer → Type 0
IsTold es ns heads links answer.Sound = Indexed es ns heads links
IsTold es ns heads links answer.Unsound = names_sound es ns ≡ false
IsTold es ns heads links answer.Open = all_below (row_sound es ns) max_entries ≡ true
