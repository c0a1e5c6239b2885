-- Chains of entries: a cell holds an entry's number, or 0, the root's, which has no name, if it is empty.
use Rattle.std.specs.Prelude.{◌≡◌, Bool, true, false, ◌&&◌, List, ℕ, ◌<◌, eqb, get_or}
use Rattle.tables.specs.Tables.{parent}
use Rattle.names.specs.Names.{row_at, same_bytes, is_named}
use Rattle.sound_names_walk.specs.declared.Walked.{Walked}
use Rattle.sound_names_walk.specs.declared.Walked.TheVariants.{Missing, Found}

-- entry f stands in the directory p, and has the row
unfoldable pub same_name : List ℕ → List ℕ → ℕ → List ℕ → ℕ → Bool
same_name es ns p row f = eqb (parent es f) p && same_bytes row (row_at ns f)

-- entry f is on the chain from `at`
pub data On (links : List ℕ) : ℕ → ℕ → Type 0 where
  here : {at : ℕ} → (at ≡ 0 → ⊥) → On links at at
  next : {at c f : ℕ} → (at ≡ 0 → ⊥) → get_or links at 0 ≡ c → On links c f → On links at f

-- a cell that is not empty holds an entry below n that has a name
abbrev pub Nodes : List ℕ → List ℕ → ℕ → Type 0
Nodes es cells n = (p : ℕ) → (get_or cells p 0 ≡ 0 → ⊥) → (get_or cells p 0 < n) × (is_named es (get_or cells p 0) ≡ true)

-- what a walk along the chain from `at` tells of a row in the directory p: nothing if no step is left
unfoldable pub IsWalked : List ℕ → List ℕ → List ℕ → ℕ → List ℕ → ℕ → Walked → Type 0
IsWalked es ns links p row at (Missing n) = (n ≡ 0 → ⊥) → (f : ℕ) → On links at f → same_name es ns p row f ≡ false
IsWalked es ns links p row at (Found f) = On links at f × (same_name es ns p row f ≡ true)
