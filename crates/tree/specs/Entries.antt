-- What the calls ask of the entries, and how they change them.
use Rattle.std.specs.Prelude.{Bool, true, false, cond, not, ◌&&◌, ◌||◌, List, ℕ, zero, suc, eqb, ltb}
use Rattle.laws.specs.Tests.{any_below, first_below}
use Rattle.laws.specs.Cells.{put_cell}
use Rattle.access.specs.Kinds.{last_kind}
use Rattle.access.specs.Limits.{max_entries}
use Rattle.tables.specs.Tables.{Tables, tables, entry_width, parent, object, live, is_dir}
use Rattle.tree.specs.declared.Replaced.{Replaced}
use Rattle.tree.specs.declared.Replaced.TheVariants.{None, Entry}

-- "Removed numbers are used again, lowest free first"
unfoldable pub free_entry : List ℕ → ℕ
free_entry es = first_below (λ e. not (live es e)) max_entries

-- "unknown kind"
unfoldable pub unknown_kind : ℕ → Bool
unknown_kind k = eqb k 0 || ltb last_kind k

-- a equals x or stands above it, within n climbs
unfoldable pub above : List ℕ → ℕ → ℕ → ℕ → Bool
above es zero a x = eqb x a
above es (suc n) a x = let r = above es n a (parent es x) in cond (eqb x a) true (cond (eqb x 0) false r)

-- "source equal to P2 or above it"
abbrev pub is_above : List ℕ → ℕ → ℕ → Bool
is_above es a x = above es max_entries a x

-- x is a live entry in the directory e; the root stands in no directory
unfoldable pub is_child : List ℕ → ℕ → ℕ → Bool
is_child es e x = not (eqb x 0) && (live es x && eqb (parent es x) e)

-- "directory not empty"
unfoldable pub is_full : List ℕ → ℕ → Bool
is_full es e = is_dir es e && any_below (is_child es e) max_entries

-- a fact about the entry that a rename replaces, if it replaces one
unfoldable pub replacing : Replaced → (ℕ → Bool) → Bool
replacing None f = false
replacing (Entry x) f = f x

-- "same object on both sides"
unfoldable pub same_object : List ℕ → ℕ → ℕ → Bool
same_object es s x = eqb (object es s) (object es x)

-- an entry's row written, its parent written, and a row freed: "a freed row" is zero
unfoldable pub put_entry : List ℕ → ℕ → ℕ → ℕ → ℕ → List ℕ
put_entry es e k p o = put_cell (put_cell (put_cell es entry_width e 0 k) entry_width e 1 p) entry_width e 2 o

unfoldable pub put_parent : List ℕ → ℕ → ℕ → List ℕ
put_parent es e p = put_cell es entry_width e 1 p

unfoldable pub free_row : List ℕ → ℕ → List ℕ
free_row es e = put_entry es e 0 0 0

abbrev pub with_entries : Tables → List ℕ → Tables
with_entries T es = tables T.system es T.rulesets T.layers T.pool T.threads
