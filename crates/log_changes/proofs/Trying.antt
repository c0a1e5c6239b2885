-- How code comes to a change tried on a tree, and what a try tells. Assumes nothing.
use mathlib.Core.Path.{◌≡◌, refl, sym, ◌∙◌}
use mathlib.Core.Bool.{Bool, true, false}
use mathlib.Core.List.{List, []}
use Prim.Native.Nat.{ℕ, ◌+◌, ◌≤◌, ◌<◌}
use lib.Dec.{eqb}
use lib.ListN.{length}
use borrow.Author.Tests.{eq-eqb, ne_eqb, leb-false}
use Rattle.laws.specs.Refusals.{first}
use Rattle.laws.proofs.Bools.{split}
use Rattle.laws.proofs.Refusals.{passed}
use Rattle.laws.proofs.Joined.{join-left, join-right}
use Rattle.access.specs.Limits.{max_counter}
use Rattle.tree.specs.declared.Replaced.{Replaced}
use Rattle.tree.specs.Entries.{free_entry, replacing, same_object, put_entry, free_row}
use Rattle.tree.specs.Link.{linked}
use Rattle.tree.specs.Rename.{moved}
use Rattle.tree.specs.Exchange.{swapped}
use Rattle.names.specs.Names.{max_name, name_checks, put_name, clear_name, bearer}
use Rattle.named.specs.Tree.{new_name, new_names, renamed_names, swapped_names}
use Rattle.named.proofs.Listed.{name_ok}
use Rattle.named.proofs.Orders.{new_early}
use Rattle.tree_log.specs.Changes.{Change, create, remove, link, rename, exchange}
use Rattle.tree_log.specs.Tree.{Tree, create_place, move_place, no_entry, no_object, tree_checks, changed, idle}
use Rattle.log_checks.specs.Checks.{tree_with}
use Rattle.log_checks.proofs.Places.{create_refuses, move_refuses}
use Rattle.log_changes.specs.Tried.{tried_as, accepted, tried}

module _ (S : Tree) (c : Change) where
  -- a check refuses it
  pub refused : {a : ℕ} → a ≡ first (tree_checks S c) → (a ≡ 0 → ⊥) → tried_as false S ≡ tried S c
  unfolding tried accepted
  refused q z = rw (ne_eqb (first (tree_checks S c)) 0 (λ h. z (q ∙ h))) refl

  -- it would leave the tree as it is
  pub left_alone : idle S c ≡ true → tried_as false S ≡ tried S c
  unfolding tried accepted
  left_alone i = split (eqb (first (tree_checks S c)) 0) (λ q. rw (q, i) refl) (λ q. rw q refl)

  pub made : {a : ℕ} {R : Tree} → a ≡ first (tree_checks S c) → a ≡ 0 → idle S c ≡ false → R ≡ changed S c → tried_as true R ≡ tried S c
  unfolding tried accepted
  made q z i r = rw (eq-eqb (first (tree_checks S c)) 0 (sym q ∙ z), i, r) refl

  -- what was tried
  pub tried-made : (tried S c).made ≡ accepted S c
  unfolding tried
  tried-made = split (accepted S c) (λ q. rw q refl) (λ q. rw q refl)

  pub tried-left : accepted S c ≡ true → (tried S c).left ≡ changed S c
  unfolding tried
  tried-left q = rw q refl

module _ (es ns : List ℕ) where
  module _ (v k d : ℕ) (n : List ℕ) {a : ℕ} (q : a ≡ first (tree_checks (tree_with es ns v) (create k d n))) (z : a ≡ 0) where
    create-later : first (tree_checks (tree_with es ns v) (create k d n)) ≡ 0
    create-later = sym q ∙ z

    pub create-fits : length n ≤ max_name
    unfolding tree_checks new_name
    create-fits = (name_ok n (join-left (name_checks n) _ (join-left (new_name es ns d n) _ (join-right (create_place es d) _ (create_refuses es d) create-later)))).short

    -- an object number is left
    pub numbered : v < max_counter
    unfolding tree_checks no_entry no_object
    numbered =
        let later = join-right (new_name es ns d n) _ (new_early es ns d n).1 (join-right (create_place es d) _ (create_refuses es d) create-later) in
        leb-false max_counter v (passed _ later).1.1.0

    pub create-made : {e : ℕ} {es' ns' : List ℕ} → e ≡ free_entry es → es' ≡ put_entry es e k d v → ns' ≡ put_name ns e n
        → tried_as true (tree_with es' ns' (v + 1)) ≡ tried (tree_with es ns v) (create k d n)
    unfolding idle changed new_names
    create-made f g h = made (tree_with es ns v) (create k d n) q z refl (rw (h, g, f) refl)

  -- the others, whatever the next object number is
  module _ (e : ℕ) {a : ℕ} (q : a ≡ first (tree_checks (tree_with es [] 0) (remove e))) where
    pub remove-refused : (a ≡ 0 → ⊥) → (v : ℕ) → tried_as false (tree_with es ns v) ≡ tried (tree_with es ns v) (remove e)
    unfolding tree_checks
    remove-refused z v = refused (tree_with es ns v) (remove e) q z

    pub remove-made : {es' ns' : List ℕ} → a ≡ 0 → es' ≡ free_row es e → ns' ≡ clear_name ns e → (v : ℕ) → tried_as true (tree_with es' ns' v) ≡ tried (tree_with es ns v) (remove e)
    unfolding tree_checks idle changed
    remove-made z g h v = made (tree_with es ns v) (remove e) q z refl (rw (g, h) refl)

  module _ (s d : ℕ) (n : List ℕ) {a : ℕ} (q : a ≡ first (tree_checks (tree_with es ns 0) (link s d n))) where
    pub link-refused_lem : (a ≡ 0 → ⊥) → (v : ℕ) → tried_as false (tree_with es ns v) ≡ tried (tree_with es ns v) (link s d n)
    unfolding tree_checks
    link-refused_lem z v = refused (tree_with es ns v) (link s d n) q z

    pub link_fits : a ≡ 0 → length n ≤ max_name
    unfolding tree_checks new_name
    link_fits z = (name_ok n (join-left (name_checks n) _ (join-left (new_name es ns d n) _ (join-right (move_place es s d) _ (move_refuses es s d) (sym q ∙ z))))).short

    pub link-made : {e : ℕ} {es' ns' : List ℕ} → a ≡ 0 → e ≡ free_entry es → es' ≡ linked es s d → ns' ≡ put_name ns e n
        → (v : ℕ) → tried_as true (tree_with es' ns' v) ≡ tried (tree_with es ns v) (link s d n)
    unfolding tree_checks idle changed new_names
    link-made z f g h v = made (tree_with es ns v) (link s d n) q z refl (rw (h, g, f) refl)

  module _ (s d : ℕ) (n : List ℕ) {x : Replaced} (b : x ≡ bearer es ns d n) {a : ℕ} (q : a ≡ first (tree_checks (tree_with es ns 0) (rename s d n))) where
    pub rename-refused_lem : (a ≡ 0 → ⊥) → (v : ℕ) → tried_as false (tree_with es ns v) ≡ tried (tree_with es ns v) (rename s d n)
    unfolding tree_checks
    rename-refused_lem z v = refused (tree_with es ns v) (rename s d n) q z

    pub rename-fits : a ≡ 0 → length n ≤ max_name
    unfolding tree_checks
    rename-fits z = (name_ok n (join-left (name_checks n) _ (join-right (move_place es s d) _ (move_refuses es s d) (sym q ∙ z)))).short

    module _ {i : Bool} (o : i ≡ replacing x (same_object es s)) where
      renames : (v : ℕ) → idle (tree_with es ns v) (rename s d n) ≡ i
      unfolding idle
      renames v = rw (o, b) refl

      pub rename-idle : i ≡ true → (v : ℕ) → tried_as false (tree_with es ns v) ≡ tried (tree_with es ns v) (rename s d n)
      rename-idle t v = left_alone (tree_with es ns v) (rename s d n) (renames v ∙ t)

      pub rename-made : {es' ns' : List ℕ} → a ≡ 0 → i ≡ false → es' ≡ moved es s d x → ns' ≡ renamed_names es ns s n x
          → (v : ℕ) → tried_as true (tree_with es' ns' v) ≡ tried (tree_with es ns v) (rename s d n)
      unfolding tree_checks changed
      rename-made z f g h v = made (tree_with es ns v) (rename s d n) q z (renames v ∙ f) (rw (g, h, b) refl)

  module _ (s d x : ℕ) {a : ℕ} (q : a ≡ first (tree_checks (tree_with es [] 0) (exchange s d x))) where
    pub exchange-refused : (a ≡ 0 → ⊥) → (v : ℕ) → tried_as false (tree_with es ns v) ≡ tried (tree_with es ns v) (exchange s d x)
    unfolding tree_checks
    exchange-refused z v = refused (tree_with es ns v) (exchange s d x) q z

    module _ {i : Bool} (o : i ≡ same_object es s x) where
      pub exchange-idle : i ≡ true → (v : ℕ) → tried_as false (tree_with es ns v) ≡ tried (tree_with es ns v) (exchange s d x)
      unfolding idle
      exchange-idle t v = left_alone (tree_with es ns v) (exchange s d x) (sym o ∙ t)

      pub exchange-made : {es' ns' : List ℕ} → a ≡ 0 → i ≡ false → es' ≡ swapped es s d x → ns' ≡ swapped_names es ns s x
          → (v : ℕ) → tried_as true (tree_with es' ns' v) ≡ tried (tree_with es ns v) (exchange s d x)
      unfolding tree_checks idle changed
      exchange-made z f g h v = made (tree_with es ns v) (exchange s d x) q z (sym o ∙ f) (rw (g, h) refl)
