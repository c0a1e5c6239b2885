-- What the functions test in turn: an entry's row without its climb, then the climbs, with marks of the entries that are known to end, then links.
use Rattle.std.specs.Prelude.{◌≡◌, Bool, true, cond, not, List, [], ◌∷◌, ℕ, ◌≤◌, ◌<◌, eqb, length, get_or}
use Rattle.laws.specs.Tests.{all_of}
use Rattle.access.specs.Kinds.{directory}
use Rattle.access.specs.Limits.{max_entries}
use Rattle.tables.specs.Tables.{parent, live}
use Rattle.sound_tree.specs.Tree.{reaches, kind_in_range, parent_is_dir, object_below, climb_ends, free_sound}

unfoldable pub row_sound : List ℕ → ℕ → ℕ → Bool
row_sound es next e = cond (live es e) (all_of (kind_in_range es e ∷ parent_is_dir es e ∷ object_below es next e ∷ [])) (free_sound es e)

unfoldable pub live_climb_ends : List ℕ → ℕ → Bool
live_climb_ends es e = cond (live es e) (climb_ends es e) true

-- the parents of live entries are live entries of the table
abbrev pub ParentsLive : List ℕ → Type 0
ParentsLive es = (e : ℕ) → live es e ≡ true → (parent es e < max_entries) × (live es (parent es e) ≡ true)

-- the marks of n climbs: a marked entry comes to entry 0
abbrev pub Known : List ℕ → List ℕ → ℕ → Type 0
Known es marks n =
    (length marks ≡ max_entries) × (((e : ℕ) → get_or marks e 0 ≤ n) × ((e : ℕ) → (get_or marks e 0 ≡ 0 → ⊥) → reaches es max_entries e ≡ true))

-- two live entries of one object, by their kinds k and l
unfoldable pub kinds_agree : ℕ → ℕ → Bool
kinds_agree k l = all_of (eqb k l ∷ not (eqb k directory) ∷ [])
