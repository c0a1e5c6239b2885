-- On sound tables a change that is not refused leaves the tree exactly if source and other are one object: code need not compare trees. Assumes nothing.
use mathlib.Core.Path.{◌≡◌, refl, sym, ap, ◌∙◌}
use mathlib.Core.Bool.{true, false, not, ◌&&◌}
use mathlib.Core.List.{List}
use Prim.Native.Nat.{ℕ, ◌+◌, ◌*◌, ◌≤◌, ◌<◌}
use native.Mathlib.Omega.{arith}
use lib.Dec.{eqb, ltb}
use lib.ListN.{length}
use borrow.Author.Tests.{eqb-true, eqb-false, eq-eqb, ne_eqb, ltb-true, ltb-false, not-false}
use Rattle.laws.specs.Refusals.{first}
use Rattle.laws.proofs.Bools.{split, clash, both, or_l, not_of_false}
use Rattle.laws.proofs.Refusals.{passed}
use Rattle.access.specs.Limits.{max_entries}
use Rattle.access.specs.Kinds.{last_kind}
use Rattle.tables.specs.Tables.{counter, entry_width, kind, parent, object, live}
use Rattle.tree.specs.declared.Replaced.TheVariants.{None, Entry}
use Rattle.tree.specs.Entries.{free_entry, unknown_kind, replacing, same_object, put_entry, put_parent, free_row}
use Rattle.tree.specs.Link.{linked}
use Rattle.tree.specs.Rename.{rename_later, dropped, moved}
use Rattle.tree.specs.Exchange.{exchange_shape, swapped}
use Rattle.sound_tree.proofs.Facts as base
use Rattle.sound.proofs.Facts.{facts}
use Rattle.kept_tree.proofs.Written.{kind_put, parent-move, parent_stay, length-move}
use Rattle.kept_tree.proofs.Fill.{free-entry, live-some}
use Rattle.names.specs.Names.{max_name, name_width, name_checks, name_at, name_of, row_at, put_name, swap_names, taken, bearer, drop_name}
use Rattle.names.proofs.Bytes.{bytes_same}
use Rattle.names.proofs.Facts.{Names, names, name_facts, named_of}
use Rattle.names.proofs.Rows.{row_other, name_put}
use Rattle.names.proofs.Bearer.{bears_of, not_taken, bearer-cases}
use Rattle.named.specs.Named.{Named, named_sound}
use Rattle.named.specs.Tree.{new_name, renamed_names, swapped_names}
use Rattle.named.proofs.Made.{core-sound, names-sound}
use Rattle.tree_log.specs.Changes.{Change, create, remove, link, rename, exchange}
use Rattle.tree_log.specs.Tree.{Tree, tree_of, create_place, move_place, remove_place, exchange_place, no_entry, no_object, tree_checks, changed, same_tree, idle, fits}
use Rattle.tree_log.proofs.Trees.{differs}

live_of : (es : List ℕ) (e k : ℕ) → kind es e ≡ k → (k ≡ 0 → ⊥) → live es e ≡ true
unfolding live
live_of es e k q n = rw q (not_of_false _ (ne_eqb k 0 n))

pub same_of : (es : List ℕ) (s x : ℕ) → s ≡ x → same_object es s x ≡ true
unfolding same_object
same_of es s x e = eq-eqb (object es s) (object es x) (ap (object es) e)

module _ (N : Named) (h : named_sound N ≡ true) where
  abbrev es : List ℕ
  es = N.core.entries

  abbrev ns : List ℕ
  ns = N.names

  abbrev S : Tree
  S = tree_of N

  Z : base.Tree es (counter N.core.system)
  Z = (facts N.core (core-sound N h)).tree

  W : Names es ns
  W = names es ns (names-sound N h)

  room : (e : ℕ) → e < max_entries → entry_width * e + 2 < length es
  room e l = let w = Z.long in omega arith

  names-room : (e : ℕ) → e < max_entries → name_width * e + name_width ≤ length ns
  names-room e l = let w = W.long in omega arith

  -- a new entry
  filled : (k d o : ℕ) → free_entry es < max_entries → (k ≡ 0 → ⊥) → es ≡ put_entry es (free_entry es) k d o → ⊥
  filled k d o l n q =
      clash (live es (free_entry es)) (live_of es (free_entry es) k (ap (λ (x : List ℕ). kind x (free_entry es)) q ∙ kind_put es (free_entry es) k d o (room (free_entry es) l)) n) (free-entry es l)

  -- a freed one
  emptied : (xs : List ℕ) (e : ℕ) → entry_width * e + 2 < length xs → live es e ≡ true → es ≡ free_row xs e → ⊥
  unfolding free_row
  emptied xs e r l q = live-some es e l (ap (λ (x : List ℕ). kind x e) q ∙ kind_put xs e 0 0 0 r)

  -- a source that stays in its place under its name bears it
  stayed : (s d : ℕ) (n : List ℕ) → live es s ≡ true → (s ≡ 0 → ⊥) → length n ≤ max_name → taken es ns d n ≡ false → es ≡ put_parent es s d → ns ≡ put_name ns s n → ⊥
  stayed s d n l z k t p q =
      let small = Z.small s l in
      let w = room s small in
      clash _ (bears_of es ns d n s z l (ap (λ (x : List ℕ). parent x s) p ∙ parent-move es s d (omega arith)) (ap (λ (x : List ℕ). name_at x s) q ∙ name_put ns s n (names-room s small) k))
      (not_taken es ns d n t s small)

  module _ (s d : ℕ) (n : List ℕ) where
    -- what the change does, and the test, by the bearer
    none-idle : bearer es ns d n ≡ None → idle S (rename s d n) ≡ false
    unfolding idle replacing
    none-idle b = rw b refl

    none-entries : bearer es ns d n ≡ None → (changed S (rename s d n)).entries ≡ put_parent es s d
    unfolding changed moved dropped replacing
    none-entries b = rw b refl

    none-names : bearer es ns d n ≡ None → (changed S (rename s d n)).names ≡ put_name ns s n
    unfolding changed renamed_names drop_name replacing
    none-names b = rw b refl

    one_idle : (y : ℕ) → bearer es ns d n ≡ Entry y → idle S (rename s d n) ≡ same_object es s y
    unfolding idle replacing
    one_idle y b = rw b refl

    one_same : (y : ℕ) → bearer es ns d n ≡ Entry y → same_object es s y ≡ true → same_tree S (changed S (rename s d n)) ≡ true
    unfolding changed moved renamed_names replacing same_tree
    one_same y b o = rw (b, o) (both _ _ (bytes_same es) (bytes_same ns))

    one_entries : (y : ℕ) → bearer es ns d n ≡ Entry y → same_object es s y ≡ false → (changed S (rename s d n)).entries ≡ free_row (put_parent es s d) y
    unfolding changed moved dropped replacing
    one_entries y b o = rw (b, o) refl

    rename_differs : live es s ≡ true → (s ≡ 0 → ⊥) → length n ≤ max_name → same_tree S (changed S (rename s d n)) ≡ idle S (rename s d n)
    rename_differs l z k = bearer-cases es ns d n
        (λ b t. differs S (changed S (rename s d n)) (λ p q. stayed s d n l z k t (p ∙ none-entries b) (q ∙ none-names b)) ∙ sym (none-idle b))
        (λ y b B. split (same_object es s y)
        (λ o. one_same y b o ∙ sym (one_idle y b ∙ o))
        (λ o. differs S (changed S (rename s d n)) (λ p q.
        let r = room y (Z.small y B.alive) in
        let w = length-move es s d in
        emptied (put_parent es s d) y (omega arith) B.alive (p ∙ one_entries y b o)) ∙ sym (one_idle y b ∙ o)))

  module _ (s d x : ℕ) where
    swap_same : same_object es s x ≡ true → same_tree S (changed S (exchange s d x)) ≡ true
    unfolding changed swapped swapped_names same_tree
    swap_same o = rw o (both _ _ (bytes_same es) (bytes_same ns))

    swap_entries : same_object es s x ≡ false → (changed S (exchange s d x)).entries ≡ put_parent (put_parent es s d) x (parent es s)
    unfolding changed swapped
    swap_entries o = rw o refl

    swap_names_lem : same_object es s x ≡ false → (changed S (exchange s d x)).names ≡ put_name (put_name ns s (name_at ns x)) x (name_at ns s)
    unfolding changed swapped_names swap_names
    swap_names_lem o = rw o refl

    exchange_differs : live es s ≡ true → live es x ≡ true → (s ≡ 0 → ⊥) → (x ≡ 0 → ⊥) → parent es x ≡ d → same_tree S (changed S (exchange s d x)) ≡ same_object es s x
    exchange_differs l m zs zx child = split (same_object es s x)
        (λ o. swap_same o ∙ sym o)
        (λ o. differs S (changed S (exchange s d x)) (λ p q.
        let apart : (s ≡ x → ⊥) = λ e. clash (same_object es s x) (same_of es s x e) o in
        let small = Z.small s l in
        let w = room s small in
        let ok = name_facts (row_at ns x) (W.good x (Z.small x m) (named_of es x zx m)) in
        let home : parent es s ≡ d = ap (λ (y : List ℕ). parent y s) (p ∙ swap_entries o) ∙ parent_stay (put_parent es s d) x (parent es s) s apart ∙ parent-move es s d (omega arith) in
        let name : name_at ns s ≡ name_at ns x = ap (λ (y : List ℕ). name_at y s) (q ∙ swap_names_lem o)
        ∙ ap name_of (row_other (put_name ns s (name_at ns x)) x (name_at ns s) s apart) ∙ name_put ns s (name_at ns x) (names-room s small) ok.short in
        apart (W.unique s x small (Z.small x m) (named_of es s zs l) (named_of es x zx m) (home ∙ sym child) name)) ∙ sym o)

  pub same-idle : (c : Change) → first (tree_checks S c) ≡ 0 → same_tree S (changed S c) ≡ idle S c
  unfolding tree_checks create_place move_place remove_place exchange_place new_name name_checks no_entry no_object unknown_kind exchange_shape idle changed linked rename_later
  same-idle (create k d n) z =
      let p = passed (tree_checks S (create k d n)) z in
      differs S (changed S (create k d n)) (λ a b. filled k d _ (ltb-true (free_entry es) max_entries (not-false _ p.1.1.1.1.1.1.0))
      (eqb-false k 0 (or_l (eqb k 0) (ltb last_kind k) p.1.1.1.1.1.0)) a)
  same-idle (remove e) z =
      let p = passed (tree_checks S (remove e)) z in
      let l = not-false (live es e) p.0 in
      differs S (changed S (remove e)) (λ a b. emptied es e (room e (Z.small e l)) l a)
  same-idle (link s d n) z =
      let p = passed (tree_checks S (link s d n)) z in
      differs S (changed S (link s d n)) (λ a b. filled (kind es s) d _ (ltb-true (free_entry es) max_entries (not-false _ p.1.1.1.1.1.1.1.1.0))
      (live-some es s (not-false (live es s) p.0)) a)
  same-idle (rename s d n) z =
      let p = passed (tree_checks S (rename s d n)) z in
      rename_differs s d n (not-false (live es s) p.0) (eqb-false s 0 p.1.1.0) (ltb-false max_name (length n) p.1.1.1.1.0)
  same-idle (exchange s d x) z =
      let p = passed (tree_checks S (exchange s d x)) z in
      exchange_differs s d x (not-false (live es s) p.0) (not-false (live es x) p.1.1.0) (eqb-false s 0 p.1.1.1.0) (eqb-false x 0 p.1.1.1.1.0)
      (eqb-true (parent es x) d (not-false _ p.1.1.1.1.1.1.0))

  -- so a replayed field is tested without comparing trees
  pub fits-idle : (c : Change) → fits S c ≡ (eqb (first (tree_checks S c)) 0 && not (idle S c))
  unfolding fits
  fits-idle c = split (eqb (first (tree_checks S c)) 0)
      (λ q. rw (same-idle c (eqb-true (first (tree_checks S c)) 0 q)) refl)
      (λ q. rw q refl)
