-- Request W1: "Give every entry but the root a name". The table of names: a row of name_width bytes for each entry, the name's length, the name, then zeros.
use Rattle.std.specs.Prelude.{Bool, true, false, cond, not, ◌&&◌, ◌||◌, List, [], ◌∷◌, ℕ, suc, ◌+◌, ◌*◌, eqb, ltb, leb, length, get_or, take, drop}
use Rattle.laws.specs.Tests.{all_below, first_below, elem, all_of}
use Rattle.laws.specs.Cells.{part, zeros, copied}
use Rattle.laws.specs.Refusals.{Check, ◌⇒◌}
use Rattle.access.specs.Errno.{EINVAL, ENAMETOOLONG}
use Rattle.access.specs.Limits.{max_entries}
use Rattle.tables.specs.Tables.{parent, live}
use Rattle.tree.specs.Entries.{is_child}
use Rattle.tree.specs.declared.Replaced.{Replaced}
use Rattle.tree.specs.declared.Replaced.TheVariants.{None, Entry}

-- "a name of 1 to 48 bytes"
abbrev pub max_name : ℕ
max_name = 48

-- a row: the length, then the name
abbrev pub name_width : ℕ
name_width = max_name + 1

abbrev pub slash : ℕ
slash = 47

abbrev pub dot : ℕ
dot = 46

-- two names are the same, byte by byte
unfoldable pub same_bytes : List ℕ → List ℕ → Bool
same_bytes [] [] = true
same_bytes [] (y ∷ ys) = false
same_bytes (x ∷ xs) [] = false
same_bytes (x ∷ xs) (y ∷ ys) = eqb x y && same_bytes xs ys

-- not "of 1 .. bytes without slash or zero byte, not "." or "..""
unfoldable pub bad_bytes : List ℕ → Bool
bad_bytes n = same_bytes n [] || (elem slash n || (elem 0 n || (same_bytes n (dot ∷ []) || same_bytes n (dot ∷ dot ∷ []))))

-- "a bad name (over-long ENAMETOOLONG, else EINVAL)"
unfoldable pub name_checks : List ℕ → List Check
name_checks n = ltb max_name (length n) ⇒ ENAMETOOLONG ∷ bad_bytes n ⇒ EINVAL ∷ []

-- ---- the table
-- the row of entry e
unfoldable pub row_at : List ℕ → ℕ → List ℕ
row_at ns e = part ns (name_width * e) (name_width * e + name_width)

-- the name in a row
unfoldable pub name_of : List ℕ → List ℕ
name_of row = take (get_or row 0 0) (drop 1 row)

abbrev pub name_at : List ℕ → ℕ → List ℕ
name_at ns e = name_of (row_at ns e)

-- the table with the name of e written; the empty name makes the row zero
unfoldable pub put_name : List ℕ → ℕ → List ℕ → List ℕ
put_name ns e n = copied ns (name_width * e) (length n ∷ n) name_width

abbrev pub clear_name : List ℕ → ℕ → List ℕ
clear_name ns e = put_name ns e []

-- ---- "soundness includes this"
-- "every entry but the root" has a name
unfoldable pub is_named : List ℕ → ℕ → Bool
is_named es e = not (eqb e 0) && live es e

-- a row with a name in it: its length, the name, and zeros behind it
unfoldable pub name_sound : List ℕ → Bool
name_sound row = all_of (leb (get_or row 0 0) max_name ∷ not (bad_bytes (name_of row)) ∷ zeros (drop (suc (get_or row 0 0)) row) ∷ [])

-- "Anything free is zero": the root's row too
unfoldable pub row_sound : List ℕ → List ℕ → ℕ → Bool
row_sound es ns e = cond (is_named es e) (name_sound (row_at ns e)) (zeros (row_at ns e))

-- two entries of one directory with one name
unfoldable pub twins : List ℕ → List ℕ → ℕ → ℕ → Bool
twins es ns e f = is_named es e && (is_named es f && (eqb (parent es e) (parent es f) && same_bytes (name_at ns e) (name_at ns f)))

-- "unique in its directory": entry e against every entry before it
unfoldable pub unlike : List ℕ → List ℕ → ℕ → Bool
unlike es ns e = all_below (λ f. not (twins es ns e f)) e

unfoldable pub names_sound : List ℕ → List ℕ → Bool
names_sound es ns =
    all_of (eqb (length ns) (name_width * max_entries) ∷ all_below (row_sound es ns) max_entries ∷ all_below (unlike es ns) max_entries ∷ [])

-- ---- who bears a name
-- x stands in the directory d and bears the name n
unfoldable pub bears : List ℕ → List ℕ → ℕ → List ℕ → ℕ → Bool
bears es ns d n x = is_child es d x && same_bytes (name_at ns x) n

unfoldable pub bearer_from : List ℕ → List ℕ → ℕ → List ℕ → ℕ
bearer_from es ns d n = first_below (bears es ns d n) max_entries

-- "a taken one"
unfoldable pub taken : List ℕ → List ℕ → ℕ → List ℕ → Bool
taken es ns d n = ltb (bearer_from es ns d n) max_entries

-- "the replaced entry is the one that bears it"
unfoldable pub bearer : List ℕ → List ℕ → ℕ → List ℕ → Replaced
bearer es ns d n = cond (taken es ns d n) (Entry (bearer_from es ns d n)) None

-- ---- what the calls do to the names
-- a rename: the replaced entry's row is cleared, the source takes the name
unfoldable pub drop_name : List ℕ → Replaced → List ℕ
drop_name ns None = ns
drop_name ns (Entry y) = clear_name ns y

-- "an exchange swaps names with places"
unfoldable pub swap_names : List ℕ → ℕ → ℕ → List ℕ
swap_names ns s x = put_name (put_name ns s (name_at ns x)) x (name_at ns s)
