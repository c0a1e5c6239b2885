-- Request W12: "If an object has several paths the first in byte order is used".
use Rattle.std.specs.Prelude.{Bool, cond, ◌&&◌, ◌||◌, List, ℕ, zero, suc, eqb, leb}
use Rattle.access.specs.Limits.{max_entries}
use Rattle.tables.specs.Tables.{object, live}
use Rattle.names.specs.Paths.{path_of}
use Rattle.policy_write.specs.Order.{earlier}

-- entry e is live and of the object
unfoldable pub is_entry_of : List ℕ → ℕ → ℕ → Bool
is_entry_of es o e = live es e && eqb (object es e) o

-- no entry is chosen yet, or the path of e goes before that of the chosen one c: over-long or not
unfoldable pub goes_first : List ℕ → List ℕ → ℕ → ℕ → Bool
goes_first es ns e c = leb max_entries c || earlier (path_of es ns e) (path_of es ns c)

-- of the object's entries below n the one whose path is the first; max_entries if there is none
unfoldable pub chosen_below : List ℕ → List ℕ → ℕ → ℕ → ℕ
chosen_below es ns o zero = max_entries
chosen_below es ns o (suc e) = let c = chosen_below es ns o e in cond (is_entry_of es o e && goes_first es ns e c) e c

unfoldable pub chosen : List ℕ → List ℕ → ℕ → ℕ
chosen es ns o = chosen_below es ns o max_entries

-- the object's path in a file
unfoldable pub chosen_path : List ℕ → List ℕ → ℕ → List ℕ
chosen_path es ns o = path_of es ns (chosen es ns o)
