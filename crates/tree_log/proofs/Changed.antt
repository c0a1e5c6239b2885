-- A change whose checks pass, thread and verdict apart, keeps sound tables sound. Assumes nothing.
use mathlib.Core.Path.{◌≡◌, sym}
use mathlib.Core.Bool.{true, false}
use mathlib.Core.List.{List, [], ◌∷◌}
use Prim.Native.Nat.{ℕ}
use lib.Dec.{eqb, ltb}
use lib.ListN.{set}
use borrow.Author.Tests.{eqb-true, eqb-false, ltb-true, leb-false, not-false}
use Rattle.laws.specs.Refusals.{Check, ◌⇒◌, first}
use Rattle.laws.proofs.Bools.{split, clash, both, or_l}
use Rattle.laws.proofs.Refusals.{passed}
use Rattle.laws.proofs.Joined.{join-left, join-right}
use Rattle.access.specs.Errno.{EINVAL}
use Rattle.access.specs.Kinds.{last_kind}
use Rattle.access.specs.Limits.{max_entries, max_counter}
use Rattle.tables.specs.Tables.{Tables, tables, counter, kind, parent, object, live, is_dir}
use Rattle.sound.specs.Sound.{sound}
use Rattle.sound.proofs.Facts.{Sound, facts}
use Rattle.tree.specs.declared.Replaced.TheVariants.{Entry}
use Rattle.tree.specs.Entries.{free_entry, unknown_kind, is_above, replacing, same_object, with_entries}
use Rattle.tree.specs.Create.{tree_created}
use Rattle.tree.specs.Link.{linked}
use Rattle.tree.specs.Rename.{rename_later, dropped, moved}
use Rattle.tree.specs.Exchange.{exchange_shape, swapped}
use Rattle.kept_tree.proofs.Fill.{free-entry, live-some, kept-create, kept-link}
use Rattle.kept_tree.proofs.Clear.{childless, kept_clear}
use Rattle.kept_tree.proofs.Move.{nonzero, not_above, kept_move, kept_replace, kept_swap}
use Rattle.names.specs.Names.{name_checks, names_sound, bearer, taken}
use Rattle.names.proofs.Facts.{Names, Name, names, names_of}
use Rattle.names.proofs.Bearer.{bearer-cases}
use Rattle.named.specs.Named.{Named, named_sound}
use Rattle.named.specs.Tree.{new_name, new_names, swapped_names}
use Rattle.named.proofs.Made.{core-sound, names-sound}
use Rattle.named.proofs.Listed.{name_ok}
use Rattle.named.proofs.Renamed.{names-filled, names-cleared, names-swapped}
use Rattle.named.proofs.Kept.{right-moved}
use Rattle.tree_log.specs.Changes.{Change, create, remove, link, rename, exchange}
use Rattle.tree_log.specs.Tree.{Tree, tree_of, with_tree, create_place, move_place, remove_place, exchange_place, no_entry, no_object, tree_checks, changed}
use Rattle.tree_log.proofs.Trees.{set_own}
use Rattle.tree_log.proofs.Idle.{same_of}

module _ (N : Named) (h : named_sound N ≡ true) where
  abbrev T : Tables
  T = N.core

  abbrev es : List ℕ
  es = N.core.entries

  abbrev ns : List ℕ
  ns = N.names

  abbrev S : Tree
  S = tree_of N

  F : Sound T
  F = facts T (core-sound N h)

  W : Names es ns
  W = names es ns (names-sound N h)

  -- other entries, the next object number as it was
  own : (new : List ℕ) → sound (with_entries T new) ≡ true
      → sound (tables (set T.system 1 (counter T.system)) new T.rulesets T.layers T.pool T.threads) ≡ true
  own new q = rw (set_own T.system 1) q

  -- a new name
  new_ok : (d : ℕ) (n : List ℕ) → first (new_name es ns d n) ≡ 0 → Name n × (taken es ns d n ≡ false)
  unfolding new_name name_checks
  new_ok d n z = (name_ok n (join-left (name_checks n) _ z), (passed (new_name es ns d n) z).1.1.0)

  create-kept : (k d : ℕ) (n : List ℕ) → first (tree_checks S (create k d n)) ≡ 0 → named_sound (with_tree N (changed S (create k d n))) ≡ true
  unfolding named_sound tree_checks create_place new_name name_checks no_entry no_object unknown_kind changed tree_created new_names
  create-kept k d n z =
      let place = passed (create_place es d) (join-left (create_place es d) _ z) in
      let z1 = join-right (create_place es d) _ tt z in
      let new = new_ok d n (join-left (new_name es ns d n) _ z1) in
      let z2 = passed _ (join-right (new_name es ns d n) _ tt z1) in
      let small = ltb-true (free_entry es) max_entries (not-false _ z2.1.0) in
      both _ _ (kept-create T F d k (not-false _ place.1.0) z2.0 small (leb-false max_counter (counter T.system) z2.1.1.0))
      (names_of _ _ (names-filled es ns _ F.tree W (free_entry es) k d (counter T.system) n small (free-entry es small)
      (eqb-false k 0 (or_l (eqb k 0) (ltb last_kind k) z2.0)) new.0 new.1))

  remove-kept : (e : ℕ) → first (tree_checks S (remove e)) ≡ 0 → named_sound (with_tree N (changed S (remove e))) ≡ true
  unfolding named_sound tree_checks remove_place changed
  remove-kept e z =
      let p = passed (tree_checks S (remove e)) z in
      let there = not-false (live es e) p.0 in
      let nz = nonzero e p.1.0 in
      both _ _ (own _ (kept_clear T F e there nz (childless es _ F.tree e nz p.1.1.0))) (names_of _ _ (names-cleared es ns _ F.tree W e there))

  link-kept : (s d : ℕ) (n : List ℕ) → first (tree_checks S (link s d n)) ≡ 0 → named_sound (with_tree N (changed S (link s d n))) ≡ true
  unfolding named_sound tree_checks move_place new_name name_checks no_entry changed linked new_names
  link-kept s d n z =
      let place = passed (move_place es s d) (join-left (move_place es s d) _ z) in
      let z1 = join-right (move_place es s d) _ tt z in
      let new = new_ok d n (join-left (new_name es ns d n) _ z1) in
      let z2 = passed _ (join-right (new_name es ns d n) _ tt z1) in
      let small = ltb-true (free_entry es) max_entries (not-false _ z2.1.0) in
      let source = not-false (live es s) place.0 in
      both _ _ (own _ (kept-link T F s d source (not-false _ place.1.1.1.0) z2.0 small))
      (names_of _ _ (names-filled es ns _ F.tree W (free_entry es) (kind es s) d (object es s) n small (free-entry es small) (live-some es s source) new.0 new.1))

  module _ (s d : ℕ) (source : live es s ≡ true) (nz : 0 ≡ s → ⊥) (home : is_dir es d ≡ true) (below : is_above es s d ≡ false) where
    moved-kept : (n : List ℕ) → first (rename_later es s (bearer es ns d n)) ≡ 0 → sound (with_entries T (moved es s d (bearer es ns d n))) ≡ true
    unfolding rename_later moved dropped replacing
    moved-kept n z = bearer-cases es ns d n
        (λ b t. rw b (kept_move T F s d source nz home (not_above T F s d nz home below)))
        (λ y b B. rw b (split (same_object es s y)
        (λ o. rw o (core-sound N h))
        (λ o.
        let p = passed (rename_later es s (Entry y)) (rw b at z) in
        let ny : (0 ≡ y → ⊥) = λ e. B.not_root (sym e) in
        rw o (kept_replace T F s d source nz home (not_above T F s d nz home below) y B.alive ny B.child (childless es _ F.tree y ny (p o).1.1.0)))))

  rename-kept : (s d : ℕ) (n : List ℕ) → first (tree_checks S (rename s d n)) ≡ 0 → named_sound (with_tree N (changed S (rename s d n))) ≡ true
  unfolding named_sound tree_checks move_place name_checks changed
  rename-kept s d n z =
      let place = passed (move_place es s d) (join-left (move_place es s d) _ z) in
      let z1 = join-right (move_place es s d) _ tt z in
      let ok = name_ok n (join-left (name_checks n) _ z1) in
      let z2 = join-right (name_checks n) _ tt z1 in
      let up : List Check = is_above es s d ⇒ EINVAL ∷ [] in
      let later = rename_later es s (bearer es ns d n) in
      let source = not-false (live es s) place.0 in
      let nz = nonzero s place.1.1.0 in
      both _ _ (own _ (moved-kept s d source nz (not-false _ place.1.1.1.0) (passed up (join-left up later z2)).0 n (join-right up later tt z2)))
      (right-moved N h s d n source (λ e. nz (sym e)) ok)

  swapped-names : (s d x : ℕ) → live es s ≡ true → live es x ≡ true → (s ≡ 0 → ⊥) → (x ≡ 0 → ⊥) → parent es x ≡ d
      → names_sound (swapped es s d x) (swapped_names es ns s x) ≡ true
  unfolding swapped swapped_names
  swapped-names s d x source other nz nx child = split (same_object es s x)
      (λ o. rw o (names-sound N h))
      (λ o. rw o (names_of _ _ (names-swapped es ns _ F.tree W s d x source other nz nx child (λ e. clash (same_object es s x) (same_of es s x e) o))))

  exchange-kept : (s d x : ℕ) → first (tree_checks S (exchange s d x)) ≡ 0 → named_sound (with_tree N (changed S (exchange s d x))) ≡ true
  unfolding named_sound tree_checks exchange_place exchange_shape changed
  exchange-kept s d x z =
      let p = passed (exchange_place es s d x) (join-left (exchange_place es s d x) _ z) in
      let q = passed (exchange_shape es s d x) (join-right (exchange_place es s d x) _ tt z) in
      let source = not-false (live es s) p.0 in
      let other = not-false (live es x) p.1.1.0 in
      both _ _ (own _ (kept_swap T (core-sound N h) s d x source other (nonzero s q.0) (nonzero x q.1.0) (not-false _ q.1.1.0) q.1.1.1.1.0 q.1.1.1.1.1.0))
      (swapped-names s d x source other (eqb-false s 0 q.0) (eqb-false x 0 q.1.0) (eqb-true (parent es x) d (not-false _ q.1.1.1.0)))

  pub change-kept : (c : Change) → first (tree_checks S c) ≡ 0 → named_sound (with_tree N (changed S c)) ≡ true
  change-kept (create k d n) z = create-kept k d n z
  change-kept (remove e) z = remove-kept e z
  change-kept (link s d n) z = link-kept s d n z
  change-kept (rename s d n) z = rename-kept s d n z
  change-kept (exchange s d x) z = exchange-kept s d x z
