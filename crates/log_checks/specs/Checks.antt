-- A tree by its parts, and the parts of its checks that code tests at once.
use Rattle.std.specs.Prelude.{List, [], ◌∷◌, ◌++◌, ℕ}
use Rattle.laws.specs.Refusals.{Check, ◌⇒◌}
use Rattle.access.specs.Errno.{EPERM, EINVAL}
use Rattle.tables.specs.Tables.{is_dir}
use Rattle.tree.specs.Entries.{unknown_kind}
use Rattle.tree_log.specs.Tree.{Tree, no_entry, no_object}

-- entries, names, next object number
abbrev pub tree_with : List ℕ → List ℕ → ℕ → Tree
tree_with es ns v = record { entries = es; names = ns; next = v }

unfoldable pub create_room : List ℕ → ℕ → ℕ → List Check
create_room es next k = (unknown_kind k ⇒ EINVAL ∷ []) ++ (no_entry es ++ no_object next)

unfoldable pub link_room : List ℕ → ℕ → List Check
link_room es s = (is_dir es s ⇒ EPERM ∷ []) ++ no_entry es
