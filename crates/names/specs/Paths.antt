-- Request W1: "Look up an absolute path".
use Rattle.std.specs.Prelude.{Bool, true, false, cond, not, ◌&&◌, ◌||◌, List, [], ◌∷◌, ◌++◌, ℕ, zero, suc, ◌-◌, eqb, ltb, length, get_or}
use Rattle.laws.specs.Tests.{first_from, elem}
use Rattle.laws.specs.Cells.{part}
use Rattle.laws.specs.Refusals.{Check, ◌⇒◌}
use Rattle.access.specs.Errno.{ENOENT, ENOTDIR, EINVAL, ENAMETOOLONG}
use Rattle.access.specs.Limits.{max_entries}
use Rattle.access.specs.declared.errno.Reply.{Reply}
use Rattle.access.specs.declared.errno.Reply.TheVariants.{Done, Refused}
use Rattle.tables.specs.Tables.{parent, is_dir}
use Rattle.tree.specs.declared.Replaced.{Replaced}
use Rattle.tree.specs.declared.Replaced.TheVariants.{None, Entry}
use Rattle.names.specs.Names.{max_name, slash, dot, same_bytes, name_at, bearer}

-- "an absolute path of at most 4,095 bytes"
abbrev pub max_path : ℕ
max_path = 4095

-- ---- the call that shows a component
-- a component starts at i: no slash stands there, and i is the path's start or a slash stands before it
unfoldable pub starts_at : List ℕ → ℕ → Bool
starts_at p zero = not (eqb (get_or p zero slash) slash)
starts_at p (suc i) = eqb (get_or p i slash) slash && not (eqb (get_or p (suc i) slash) slash)

-- "the first component starting at or after a given place": where it starts; the path's length, or the place past it, if none does
unfoldable pub component_start : List ℕ → ℕ → ℕ
component_start p at = first_from (starts_at p) (length p - at) at

-- and where it ends: at the next slash, or with the path
unfoldable pub component_end : List ℕ → ℕ → ℕ
component_end p from = first_from (λ i. eqb (get_or p i slash) slash) (length p - from) from

-- "as its part of the path, empty if none"
unfoldable pub component : List ℕ → ℕ → List ℕ
component p at = part p (component_start p at) (component_end p (component_start p at))

-- ---- the lookup, over the components in turn
-- a byte before the components of the rest: a slash parts, another byte joins the component that begins right there
unfoldable pub joined : ℕ → Bool → List (List ℕ) → List (List ℕ)
joined b true cs = (b ∷ []) ∷ cs
joined b false [] = (b ∷ []) ∷ []
joined b false (c ∷ cs) = (b ∷ c) ∷ cs

-- the rest of the path begins with a slash, or there is none
unfoldable pub parted : List ℕ → Bool
parted [] = true
parted (b ∷ bs) = eqb b slash

-- "repeated slashes count as one"
unfoldable pub components : List ℕ → List (List ℕ)
components [] = []
components (b ∷ bs) = let cs = components bs in cond (eqb b slash) cs (joined b (parted bs) cs)

-- the last byte is a slash: "a closing slash"
unfoldable pub closing : List ℕ → Bool
closing [] = false
closing (b ∷ []) = eqb b slash
closing (b ∷ c ∷ bs) = closing (c ∷ bs)

abbrev pub refuse : ℕ → Reply
refuse e = Refused (record { 0 = e })

-- the end of the path at e: "after a non-directory ENOTDIR (a closing slash there too)"
unfoldable pub arrived : List ℕ → Bool → ℕ → Reply
arrived es close e = cond (close && not (is_dir es e)) (refuse ENOTDIR) (Done e)

-- ""." stays, ".." goes to the parent (of the root, the root), a symlink is never followed"; the root is its own parent in sound tables
unfoldable pub step_to : List ℕ → List ℕ → ℕ → List ℕ → Replaced
step_to es ns e c = cond (same_bytes c (dot ∷ [])) (Entry e) (cond (same_bytes c (dot ∷ dot ∷ [])) (Entry (parent es e)) (bearer es ns e c))

-- "then each component in turn: after a non-directory ENOTDIR .., over-long ENAMETOOLONG, unknown ENOENT"
unfoldable pub walk : List ℕ → List ℕ → Bool → List (List ℕ) → ℕ → Reply
walk es ns close [] e = arrived es close e
walk es ns close (c ∷ cs) e =
    cond (not (is_dir es e)) (refuse ENOTDIR)
    (cond (ltb max_name (length c)) (refuse ENAMETOOLONG)
    (elim (step_to es ns e c) [ None ↦ refuse ENOENT | Entry x ↦ walk es ns close cs x ]))

-- "empty path ENOENT; over-long path ENAMETOOLONG (36); no leading slash or a zero byte EINVAL"
unfoldable pub path_checks : List ℕ → List Check
path_checks p =
    eqb (length p) 0 ⇒ ENOENT
    ∷ ltb max_path (length p) ⇒ ENAMETOOLONG
    ∷ (not (eqb (get_or p 0 0) slash) || elem 0 p) ⇒ EINVAL
    ∷ []

-- what a path that passes those comes to, from the root
unfoldable pub found : List ℕ → List ℕ → List ℕ → Reply
found es ns p = walk es ns (closing p) (components p) 0

-- ---- the path of an entry: its names from the root down, each behind a slash; climbs of at most k steps
unfoldable pub path_up : List ℕ → List ℕ → ℕ → ℕ → List ℕ
path_up es ns zero e = []
path_up es ns (suc k) e = let up = path_up es ns k (parent es e) in cond (eqb e 0) [] (up ++ slash ∷ name_at ns e)

unfoldable pub path_of : List ℕ → List ℕ → ℕ → List ℕ
path_of es ns e = cond (eqb e 0) (slash ∷ []) (path_up es ns max_entries e)
