-- What a change of the tree reads and writes: the entries, their names and the next object number. It acts on these alone.
use Rattle.std.specs.Prelude.{Bool, false, not, ◌&&◌, List, [], ◌∷◌, ◌++◌, ℕ, ◌+◌, eqb, ltb, leb, set}
use Rattle.laws.specs.Refusals.{Check, ◌⇒◌, first}
use Rattle.access.specs.Errno.{EPERM, ENOENT, EBUSY, ENOTDIR, EINVAL, ENOSPC, ENOTEMPTY}
use Rattle.access.specs.Limits.{max_entries, max_counter}
use Rattle.tables.specs.Tables.{tables, counter, live, is_dir}
use Rattle.tree.specs.Entries.{free_entry, unknown_kind, is_above, is_full, put_entry, free_row, replacing, same_object}
use Rattle.tree.specs.Link.{linked}
use Rattle.tree.specs.Rename.{rename_later, moved}
use Rattle.tree.specs.Exchange.{exchange_shape, swapped}
use Rattle.names.specs.Names.{name_checks, same_bytes, clear_name, bearer}
use Rattle.named.specs.Named.{Named, with_names}
use Rattle.named.specs.Tree.{new_name, new_names, renamed_names, swapped_names}
use Rattle.tree_log.specs.Changes.{Change, create, remove, link, rename, exchange}

pub record Tree : Type 0 where
  pub entries : List ℕ
  pub names : List ℕ
  -- the next object number
  pub next : ℕ

abbrev pub tree_of : Named → Tree
tree_of N = record { entries = N.core.entries; names = N.names; next = counter N.core.system }

-- the tables with that tree, every other cell as it was
abbrev pub with_tree : Named → Tree → Named
with_tree N S =
    with_names (tables (set N.core.system 1 S.next) S.entries N.core.rulesets N.core.layers N.core.pool N.core.threads) S.names

-- ---- the refusals of a call, "thread, verdict and log apart", in their order
unfoldable pub create_place : List ℕ → ℕ → List Check
create_place es d = not (live es d) ⇒ ENOENT ∷ not (is_dir es d) ⇒ ENOTDIR ∷ []

unfoldable pub remove_place : List ℕ → ℕ → List Check
remove_place es e = not (live es e) ⇒ ENOENT ∷ eqb e 0 ⇒ EBUSY ∷ []

unfoldable pub move_place : List ℕ → ℕ → ℕ → List Check
move_place es s d = not (live es s) ⇒ ENOENT ∷ not (live es d) ⇒ ENOENT ∷ eqb s 0 ⇒ EBUSY ∷ not (is_dir es d) ⇒ ENOTDIR ∷ []

unfoldable pub exchange_place : List ℕ → ℕ → ℕ → ℕ → List Check
exchange_place es s d x = not (live es s) ⇒ ENOENT ∷ not (live es d) ⇒ ENOENT ∷ not (live es x) ⇒ ENOENT ∷ []

unfoldable pub no_entry : List ℕ → List Check
no_entry es = not (ltb (free_entry es) max_entries) ⇒ ENOSPC ∷ []

unfoldable pub no_object : ℕ → List Check
no_object next = leb max_counter next ⇒ ENOSPC ∷ []

unfoldable pub tree_checks : Tree → Change → List Check
tree_checks S (create k d n) =
    create_place S.entries d ++ (new_name S.entries S.names d n ++ ((unknown_kind k ⇒ EINVAL ∷ []) ++ (no_entry S.entries ++ no_object S.next)))
tree_checks S (remove e) = remove_place S.entries e ++ (is_full S.entries e ⇒ ENOTEMPTY ∷ [])
tree_checks S (link s d n) = move_place S.entries s d ++ (new_name S.entries S.names d n ++ ((is_dir S.entries s ⇒ EPERM ∷ []) ++ no_entry S.entries))
tree_checks S (rename s d n) =
    move_place S.entries s d ++ (name_checks n ++ ((is_above S.entries s d ⇒ EINVAL ∷ []) ++ rename_later S.entries s (bearer S.entries S.names d n)))
tree_checks S (exchange s d x) = exchange_place S.entries s d x ++ exchange_shape S.entries s d x

-- ---- the effect of a call
unfoldable pub changed : Tree → Change → Tree
changed S (create k d n) = record {
  entries = put_entry S.entries (free_entry S.entries) k d S.next;
  names = new_names S.entries S.names n;
  next = S.next + 1;
}
changed S (remove e) = record { entries = free_row S.entries e; names = clear_name S.names e; next = S.next }
changed S (link s d n) = record { entries = linked S.entries s d; names = new_names S.entries S.names n; next = S.next }
changed S (rename s d n) =
    let x = bearer S.entries S.names d n in
    record { entries = moved S.entries s d x; names = renamed_names S.entries S.names s n x; next = S.next }
changed S (exchange s d x) = record { entries = swapped S.entries s d x; names = swapped_names S.entries S.names s x; next = S.next }

-- no entry's cell and no name differs: "Each successful tree change, in this request also one of names alone". The next object number moves only with a new entry
unfoldable pub same_tree : Tree → Tree → Bool
same_tree S R = same_bytes S.entries R.entries && same_bytes S.names R.names

-- the same, read off the objects: on sound tables a change that is not refused leaves the tree exactly if this says so
unfoldable pub idle : Tree → Change → Bool
idle S (create k d n) = false
idle S (remove e) = false
idle S (link s d n) = false
idle S (rename s d n) = replacing (bearer S.entries S.names d n) (same_object S.entries s)
idle S (exchange s d x) = same_object S.entries s x

-- its call would neither refuse it nor leave the tree as it is
unfoldable pub fits : Tree → Change → Bool
fits S c = eqb (first (tree_checks S c)) 0 && not (same_tree S (changed S c))
