-- Document 01, "Tables are sound if": the clauses on entries.
use Rattle.std.specs.Prelude.{Bool, true, cond, not, ◌&&◌, List, [], ◌∷◌, ℕ, zero, suc, eqb, ltb, leb}
use Rattle.laws.specs.Tests.{all_below, all_of}
use Rattle.access.specs.Kinds.{directory, last_kind}
use Rattle.access.specs.Limits.{max_entries}
use Rattle.tables.specs.Tables.{kind, parent, object, live, is_dir}

-- "entry 0 is as above": a directory, object 0, its own parent
unfoldable pub root_sound : List ℕ → Bool
root_sound es = all_of (eqb (kind es 0) directory ∷ eqb (parent es 0) 0 ∷ eqb (object es 0) 0 ∷ [])

-- climbing from e comes to entry 0 in at most n steps
unfoldable pub reaches : List ℕ → ℕ → ℕ → Bool
reaches es zero e = eqb e 0
reaches es (suc n) e = let r = reaches es n (parent es e) in cond (eqb e 0) true r

-- "kinds .. are in range"
abbrev pub kind_in_range : List ℕ → ℕ → Bool
kind_in_range es e = leb (kind es e) last_kind

-- "each live parent is a live directory"
abbrev pub parent_is_dir : List ℕ → ℕ → Bool
parent_is_dir es e = is_dir es (parent es e)

-- "objects lie below the counter"
abbrev pub object_below : List ℕ → ℕ → ℕ → Bool
object_below es next e = ltb (object es e) next

-- "climbing ends at 0": there are max_entries entries, so a climb that ends at all ends in as many steps
abbrev pub climb_ends : List ℕ → ℕ → Bool
climb_ends es e = reaches es max_entries e

unfoldable pub live_sound : List ℕ → ℕ → ℕ → Bool
live_sound es next e = all_of (kind_in_range es e ∷ parent_is_dir es e ∷ object_below es next e ∷ climb_ends es e ∷ [])

-- "free space is zero": a free row has kind 0
unfoldable pub free_sound : List ℕ → ℕ → Bool
free_sound es e = all_of (eqb (parent es e) 0 ∷ eqb (object es e) 0 ∷ [])

unfoldable pub entry_sound : List ℕ → ℕ → ℕ → Bool
entry_sound es next e = cond (live es e) (live_sound es next e) (free_sound es e)

-- two live entries of one object, hard links
unfoldable pub same_object : List ℕ → ℕ → ℕ → Bool
same_object es e f = eqb (object es e) (object es f) && (live es e && live es f)

-- "entries of one object agree in kind, and a directory object has one entry"
unfoldable pub link_sound : List ℕ → ℕ → ℕ → Bool
link_sound es e f = cond (same_object es e f) (all_of (eqb (kind es e) (kind es f) ∷ not (is_dir es e) ∷ [])) true

-- entry e against every entry before it
unfoldable pub links_sound : List ℕ → ℕ → Bool
links_sound es e = all_below (link_sound es e) e

unfoldable pub entries_sound : List ℕ → ℕ → Bool
entries_sound es next =
    all_of (root_sound es ∷ all_below (entry_sound es next) max_entries ∷ all_below (links_sound es) max_entries ∷ [])
