-- Small logs, computed: what the definitions say of those that are easily got wrong. Assumes nothing.
use mathlib.Core.Path.{◌≡◌, refl}
use mathlib.Core.Bool.{Bool, true, false, ◌&&◌}
use mathlib.Core.List.{List, [], ◌∷◌, ◌++◌, map}
use Prim.Native.Nat.{ℕ, ◌+◌}
use lib.Dec.{eqb}
use lib.ListN.{replicate, take}
use Rattle.laws.specs.Tests.{any_below, first_from, first_below, elem}
use Rattle.laws.specs.Cells.{copied}
use Rattle.laws.specs.Refusals.{first}
use Rattle.tables.specs.Tables.{live, is_dir}
use Rattle.tree.specs.Entries.{free_entry, unknown_kind, above, is_child, is_full, replacing, same_object, put_entry, put_parent, free_row}
use Rattle.tree.specs.Link.{linked}
use Rattle.tree.specs.Rename.{rename_later, dropped, moved}
use Rattle.tree.specs.Exchange.{exchange_shape, swapped}
use Rattle.names.specs.Names.{same_bytes, bad_bytes, name_checks, row_at, name_of, put_name, bears, bearer_from, taken, bearer, drop_name, swap_names}
use Rattle.named.specs.Tree.{new_name, new_names, renamed_names, swapped_names}
use Rattle.policy.specs.Fields.{cut, pieces}
use Rattle.policy_write.specs.Written.{field_bytes}
use Rattle.tree_log.specs.Changes.{create, remove, link, rename, exchange, tag_of, value_of, field_of, read_create, read_remove, read_move, read_exchange, read_value, read_field}
use Rattle.tree_log.specs.Tree.{Tree, create_place, move_place, remove_place, exchange_place, no_entry, no_object, tree_checks, changed, same_tree, fits}
use Rattle.tree_log.specs.Replay.{Applied, Faulty, on_read, replayed}

-- the root, its file 1 "a" and a second link 2 "b" to it, the directory 3 "d": as many rows as are used, and one that is free
abbrev S : Tree
S = record {
  entries = 2 ∷ 0 ∷ 0 ∷ 1 ∷ 0 ∷ 1 ∷ 1 ∷ 0 ∷ 1 ∷ 2 ∷ 0 ∷ 2 ∷ 0 ∷ 0 ∷ 0 ∷ [];
  names = put_name (put_name (put_name (replicate 245 0) 1 (97 ∷ [])) 2 (98 ∷ [])) 3 (100 ∷ []);
  next = 3;
}

-- what a log comes to: 1000 for EBADMSG, else the bytes dropped; and whether the tree is as before
pub came : List ℕ → ℕ
came bs = elim (replayed (pieces bs) S) [ Applied R n ↦ n | Faulty ↦ 1000 ]

pub same : List ℕ → Bool
same bs = elim (replayed (pieces bs) S) [ Applied R n ↦ same_tree S R && eqb S.next R.next | Faulty ↦ true ]

abbrev logs : List (List ℕ)
logs =
    []
    -- a create, whole and cut after each byte but one
    ∷ field_of (create 1 3 (120 ∷ []))
    ∷ take 6 (field_of (create 1 3 (120 ∷ [])))
    ∷ take 2 (field_of (create 1 3 (120 ∷ [])))
    -- an unknown tag: cut, and whole
    ∷ (99 ∷ 200 ∷ 0 ∷ 7 ∷ [])
    ∷ (99 ∷ 1 ∷ 0 ∷ 7 ∷ [])
    -- a field of W4
    ∷ (1 ∷ 1 ∷ 0 ∷ 112 ∷ [])
    -- a change, then a tail; a tail of a bad value is only a tail
    ∷ (field_of (remove 1) ++ (17 ∷ 3 ∷ 0 ∷ 9 ∷ []))
    ∷ (field_of (remove 1) ++ (17 ∷ 1 ∷ 0 ∷ 9 ∷ []))
    -- refused: a taken name, an entry that is not live, the root
    ∷ field_of (create 1 0 (97 ∷ []))
    ∷ field_of (remove 4)
    ∷ field_of (remove 0)
    -- changing nothing: over its own name, over the other link to its object, exchange of the two links
    ∷ field_of (rename 1 0 (97 ∷ []))
    ∷ field_of (rename 1 0 (98 ∷ []))
    ∷ field_of (exchange 1 0 2)
    -- a change of names alone
    ∷ field_of (rename 1 0 (120 ∷ []))
    ∷ field_of (exchange 1 0 3)
    -- the link removed and made again: the tree is as before, and no thread was asked
    ∷ (field_of (remove 2) ++ field_of (link 1 0 (98 ∷ [])))
    -- a file created and removed: the tree is as before, the next object number is not
    ∷ (field_of (create 1 3 (120 ∷ [])) ++ field_of (remove 4))
    -- a good change before a bad one
    ∷ (field_of (remove 2) ++ field_of (remove 2))
    ∷ []

pub logs_come : map came logs ≡ 0 ∷ 0 ∷ 6 ∷ 2 ∷ 4 ∷ 1000 ∷ 1000 ∷ 4 ∷ 1000 ∷ 1000 ∷ 1000 ∷ 1000 ∷ 1000 ∷ 1000 ∷ 1000 ∷ 0 ∷ 0 ∷ 0 ∷ 0 ∷ 1000 ∷ []
unfolding came replayed on_read pieces cut field_bytes tag_of value_of field_of read_create read_remove read_move read_exchange read_value read_field create_place move_place remove_place exchange_place new_name no_entry no_object tree_checks changed same_tree fits same_bytes bad_bytes name_checks row_at name_of put_name bears bearer_from taken bearer drop_name swap_names new_names renamed_names swapped_names linked rename_later dropped moved exchange_shape swapped free_entry unknown_kind above is_child is_full replacing same_object put_entry put_parent free_row live is_dir any_below first_from first_below elem copied first
logs_come = refl

pub logs_same : map same logs ≡ true ∷ false ∷ true ∷ true ∷ true ∷ true ∷ true ∷ false ∷ true ∷ true ∷ true ∷ true ∷ true ∷ true ∷ true ∷ false ∷ false ∷ true ∷ false ∷ true ∷ []
unfolding same replayed on_read pieces cut field_bytes tag_of value_of field_of read_create read_remove read_move read_exchange read_value read_field create_place move_place remove_place exchange_place new_name no_entry no_object tree_checks changed same_tree fits same_bytes bad_bytes name_checks row_at name_of put_name bears bearer_from taken bearer drop_name swap_names new_names renamed_names swapped_names linked rename_later dropped moved exchange_shape swapped free_entry unknown_kind above is_child is_full replacing same_object put_entry put_parent free_row live is_dir any_below first_from first_below elem copied first
logs_same = refl
