-- Worked paths, computed: what the definitions say of those that are easily got wrong. Assumes nothing.
use mathlib.Core.Path.{◌≡◌, refl}
use mathlib.Core.List.{List, [], ◌∷◌, map}
use Prim.Native.Nat.{ℕ}
use lib.ListN.{replicate}
use Rattle.laws.specs.Tests.{first_from, first_below, elem}
use Rattle.laws.specs.Cells.{copied}
use Rattle.laws.specs.Refusals.{first}
use Rattle.access.specs.Errno.{ENOENT, ENOTDIR, EINVAL, ENAMETOOLONG}
use Rattle.access.specs.declared.errno.Reply.{Reply}
use Rattle.access.specs.declared.errno.Reply.TheVariants.{Done}
use Rattle.tables.specs.Tables.{live, is_dir}
use Rattle.tree.specs.Entries.{is_child}
use Rattle.names.specs.Names.{same_bytes, row_at, name_of, put_name, bears, bearer_from, taken, bearer}
use Rattle.names.specs.Paths.{starts_at, component_start, component_end, component, joined, parted, components, closing, refuse, arrived, step_to, walk, path_checks, found}

-- 1 /cal and 2 /import, 3 /cal/table and 4 /import/feed: as many rows as are used, since past the end all cells read as 0
abbrev es : List ℕ
es = 2 ∷ 0 ∷ 0 ∷ 2 ∷ 0 ∷ 1 ∷ 2 ∷ 0 ∷ 2 ∷ 1 ∷ 1 ∷ 3 ∷ 1 ∷ 2 ∷ 4 ∷ []

abbrev ns : List ℕ
ns = put_name (put_name (put_name (put_name (replicate 245 0) 1 (99 ∷ 97 ∷ 108 ∷ [])) 2 (105 ∷ 109 ∷ 112 ∷ 111 ∷ 114 ∷ 116 ∷ [])) 3 (116 ∷ 97 ∷ 98 ∷ 108 ∷ 101 ∷ [])) 4 (102 ∷ 101 ∷ 101 ∷ 100 ∷ [])

abbrev paths : List (List ℕ)
paths =
    (47 ∷ 99 ∷ 97 ∷ 108 ∷ 47 ∷ 116 ∷ 97 ∷ 98 ∷ 108 ∷ 101 ∷ [])
    ∷ (47 ∷ [])
    ∷ (47 ∷ 47 ∷ 47 ∷ 47 ∷ [])
    ∷ (47 ∷ 47 ∷ 99 ∷ 97 ∷ 108 ∷ 47 ∷ 47 ∷ 46 ∷ 47 ∷ 46 ∷ 46 ∷ 47 ∷ 99 ∷ 97 ∷ 108 ∷ 47 ∷ 116 ∷ 97 ∷ 98 ∷ 108 ∷ 101 ∷ [])
    ∷ (47 ∷ 46 ∷ 46 ∷ [])
    ∷ (47 ∷ 99 ∷ 97 ∷ 108 ∷ 47 ∷ 46 ∷ 46 ∷ [])
    ∷ (47 ∷ 99 ∷ 97 ∷ 108 ∷ 47 ∷ [])
    ∷ (47 ∷ 99 ∷ 97 ∷ 108 ∷ 47 ∷ 46 ∷ 46 ∷ 47 ∷ 105 ∷ 109 ∷ 112 ∷ 111 ∷ 114 ∷ 116 ∷ 47 ∷ 102 ∷ 101 ∷ 101 ∷ 100 ∷ [])
    ∷ (47 ∷ 99 ∷ 97 ∷ 108 ∷ 47 ∷ 116 ∷ 97 ∷ 98 ∷ 108 ∷ 101 ∷ 47 ∷ [])
    ∷ (47 ∷ 99 ∷ 97 ∷ 108 ∷ 47 ∷ 116 ∷ 97 ∷ 98 ∷ 108 ∷ 101 ∷ 47 ∷ 46 ∷ [])
    ∷ (47 ∷ 99 ∷ 97 ∷ 108 ∷ 47 ∷ 116 ∷ 97 ∷ 98 ∷ 108 ∷ 101 ∷ 47 ∷ 46 ∷ 46 ∷ [])
    ∷ (47 ∷ 99 ∷ 97 ∷ 108 ∷ 47 ∷ 116 ∷ 97 ∷ 98 ∷ 108 ∷ 101 ∷ 47 ∷ 120 ∷ [])
    ∷ (47 ∷ 99 ∷ 97 ∷ 108 ∷ 47 ∷ 110 ∷ 111 ∷ 112 ∷ 101 ∷ [])
    ∷ (47 ∷ 99 ∷ 97 ∷ 108 ∷ 47 ∷ 110 ∷ 111 ∷ 112 ∷ 101 ∷ 47 ∷ 120 ∷ 120 ∷ 120 ∷ 120 ∷ 120 ∷ 120 ∷ 120 ∷ 120 ∷ 120 ∷ 120 ∷ 120 ∷ 120 ∷ 120 ∷ 120 ∷ 120 ∷ 120 ∷ 120 ∷ 120 ∷ 120 ∷ 120 ∷ 120 ∷ 120 ∷ 120 ∷ 120 ∷ 120 ∷ 120 ∷ 120 ∷ 120 ∷ 120 ∷ 120 ∷ 120 ∷ 120 ∷ 120 ∷ 120 ∷ 120 ∷ 120 ∷ 120 ∷ 120 ∷ 120 ∷ 120 ∷ 120 ∷ 120 ∷ 120 ∷ 120 ∷ 120 ∷ 120 ∷ 120 ∷ 120 ∷ 120 ∷ [])
    ∷ (47 ∷ 120 ∷ 120 ∷ 120 ∷ 120 ∷ 120 ∷ 120 ∷ 120 ∷ 120 ∷ 120 ∷ 120 ∷ 120 ∷ 120 ∷ 120 ∷ 120 ∷ 120 ∷ 120 ∷ 120 ∷ 120 ∷ 120 ∷ 120 ∷ 120 ∷ 120 ∷ 120 ∷ 120 ∷ 120 ∷ 120 ∷ 120 ∷ 120 ∷ 120 ∷ 120 ∷ 120 ∷ 120 ∷ 120 ∷ 120 ∷ 120 ∷ 120 ∷ 120 ∷ 120 ∷ 120 ∷ 120 ∷ 120 ∷ 120 ∷ 120 ∷ 120 ∷ 120 ∷ 120 ∷ 120 ∷ 120 ∷ 120 ∷ [])
    ∷ (47 ∷ 120 ∷ 120 ∷ 120 ∷ 120 ∷ 120 ∷ 120 ∷ 120 ∷ 120 ∷ 120 ∷ 120 ∷ 120 ∷ 120 ∷ 120 ∷ 120 ∷ 120 ∷ 120 ∷ 120 ∷ 120 ∷ 120 ∷ 120 ∷ 120 ∷ 120 ∷ 120 ∷ 120 ∷ 120 ∷ 120 ∷ 120 ∷ 120 ∷ 120 ∷ 120 ∷ 120 ∷ 120 ∷ 120 ∷ 120 ∷ 120 ∷ 120 ∷ 120 ∷ 120 ∷ 120 ∷ 120 ∷ 120 ∷ 120 ∷ 120 ∷ 120 ∷ 120 ∷ 120 ∷ 120 ∷ 120 ∷ [])
    ∷ (47 ∷ 99 ∷ 97 ∷ 108 ∷ 47 ∷ 116 ∷ 97 ∷ 98 ∷ 108 ∷ 101 ∷ 47 ∷ 120 ∷ 120 ∷ 120 ∷ 120 ∷ 120 ∷ 120 ∷ 120 ∷ 120 ∷ 120 ∷ 120 ∷ 120 ∷ 120 ∷ 120 ∷ 120 ∷ 120 ∷ 120 ∷ 120 ∷ 120 ∷ 120 ∷ 120 ∷ 120 ∷ 120 ∷ 120 ∷ 120 ∷ 120 ∷ 120 ∷ 120 ∷ 120 ∷ 120 ∷ 120 ∷ 120 ∷ 120 ∷ 120 ∷ 120 ∷ 120 ∷ 120 ∷ 120 ∷ 120 ∷ 120 ∷ 120 ∷ 120 ∷ 120 ∷ 120 ∷ 120 ∷ 120 ∷ 120 ∷ 120 ∷ 120 ∷ 120 ∷ [])
    ∷ (47 ∷ 99 ∷ 97 ∷ 108 ∷ 47 ∷ 102 ∷ 101 ∷ 101 ∷ 100 ∷ [])
    ∷ (47 ∷ 99 ∷ 97 ∷ 108 ∷ 47 ∷ 46 ∷ 46 ∷ 46 ∷ [])
    ∷ []

abbrev answers : List Reply
answers =
    Done 3
    ∷ Done 0
    ∷ Done 0
    ∷ Done 3
    ∷ Done 0
    ∷ Done 0
    ∷ Done 1
    ∷ Done 4
    ∷ refuse ENOTDIR
    ∷ refuse ENOTDIR
    ∷ refuse ENOTDIR
    ∷ refuse ENOTDIR
    ∷ refuse ENOENT
    ∷ refuse ENOENT
    ∷ refuse ENAMETOOLONG
    ∷ refuse ENOENT
    ∷ refuse ENOTDIR
    ∷ refuse ENOENT
    ∷ refuse ENOENT
    ∷ []

pub looked_up_lem : map (found es ns) paths ≡ answers
unfolding first_from first_below copied live is_dir is_child same_bytes row_at name_of put_name bears bearer_from taken bearer joined parted components closing arrived step_to walk found
looked_up_lem = refl

-- the checks that come before
abbrev odd : List (List ℕ)
odd = ([]) ∷ (99 ∷ 97 ∷ 108 ∷ []) ∷ (47 ∷ 99 ∷ 97 ∷ 108 ∷ 0 ∷ []) ∷ (47 ∷ 99 ∷ 97 ∷ 108 ∷ []) ∷ []

pub checked : map (λ p. first (path_checks p)) odd ≡ ENOENT ∷ EINVAL ∷ EINVAL ∷ 0 ∷ []
unfolding first path_checks elem
checked = refl

-- "the first component starting at or after a given place": a place inside a component skips its rest
pub shown1 : map (component (47 ∷ 97 ∷ 98 ∷ 47 ∷ 47 ∷ 99 ∷ 100 ∷ 101 ∷ [])) (0 ∷ 1 ∷ 2 ∷ 4 ∷ 5 ∷ 6 ∷ 9 ∷ []) ≡ (97 ∷ 98 ∷ []) ∷ (97 ∷ 98 ∷ []) ∷ (99 ∷ 100 ∷ 101 ∷ []) ∷ (99 ∷ 100 ∷ 101 ∷ []) ∷ (99 ∷ 100 ∷ 101 ∷ []) ∷ ([]) ∷ ([]) ∷ []
unfolding first_from starts_at component_start component_end component
shown1 = refl

pub shown2 : map (component (97 ∷ 98 ∷ 47 ∷ 99 ∷ [])) (0 ∷ 1 ∷ []) ≡ (97 ∷ 98 ∷ []) ∷ (99 ∷ []) ∷ []
unfolding first_from starts_at component_start component_end component
shown2 = refl

pub shown3 : map (component ([])) (0 ∷ []) ≡ ([]) ∷ []
unfolding first_from starts_at component_start component_end component
shown3 = refl

pub shown4 : map (component (47 ∷ 47 ∷ 47 ∷ [])) (0 ∷ []) ≡ ([]) ∷ []
unfolding first_from starts_at component_start component_end component
shown4 = refl

-- a row is written whole: the length, the name, zeros up to its end
pub written : row_at (put_name (replicate 147 7) 1 (99 ∷ [])) 1 ≡ 1 ∷ 99 ∷ replicate 47 0
unfolding copied row_at put_name
written = refl
