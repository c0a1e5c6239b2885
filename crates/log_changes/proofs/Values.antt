-- A value, as the code sees it: a listed one is long enough for what stands before its name. Assumes nothing.
use mathlib.Core.Path.{◌≡◌, refl, sym, ap, subst, ◌∙◌}
use mathlib.Core.Bool.{false}
use mathlib.Core.List.{List, [], ◌∷◌}
use Prim.Native.Nat.{ℕ, ◌-◌, ◌≤◌}
use native.Mathlib.Omega.{arith}
use lib.Dec.{eqb, ltb}
use lib.ListN.{length, drop, length-drop}
use lib.Seq.{take_all}
use Rattle.laws.specs.Cells.{part}
use Rattle.laws.proofs.Bools.{split}
use Rattle.tree_log.specs.Changes.{Change, create, remove, link, rename, exchange, create_tag, remove_tag, link_tag, rename_tag, exchange_tag, max_value, Read, Listed, Unlisted, read_create, read_remove, read_move, read_exchange, read_value, read_field}
use Rattle.tree_log.specs.Tree.{Tree}
use Rattle.log_fields.specs.declared.Seen.{Seen}
use Rattle.log_fields.specs.declared.Seen.TheVariants.{Create, Remove, Link, Rename, Exchange}
use Rattle.log_fields.specs.declared.Seen.TheVariants as fields
use Rattle.log_fields.specs.Seen.{change_of}
use Rattle.log_changes.specs.Tried.{Tried, tried_as, tried, tried_read}

-- where the name starts
unfoldable name_from : Change → ℕ
name_from (create k d n) = 3
name_from (remove e) = 0
name_from (link s d n) = 4
name_from (rename s d n) = 4
name_from (exchange s d x) = 0

unfoldable Roomy : List ℕ → Read → Type 0
Roomy v (Listed c) = name_from c ≤ length v
Roomy v Unlisted = Unit {0}

create_roomy : (v : List ℕ) → Roomy v (read_create v)
unfolding read_create Roomy name_from
create_roomy [] = tt
create_roomy (a ∷ []) = tt
create_roomy (a ∷ b ∷ []) = tt
create_roomy (a ∷ b ∷ c ∷ v) = omega arith

remove_roomy : (v : List ℕ) → Roomy v (read_remove v)
unfolding read_remove Roomy name_from
remove_roomy [] = tt
remove_roomy (a ∷ []) = tt
remove_roomy (a ∷ b ∷ []) = omega arith
remove_roomy (a ∷ b ∷ c ∷ v) = tt

move_roomy : (f : ℕ → ℕ → List ℕ → Change) → ((s d : ℕ) (n : List ℕ) → name_from (f s d n) ≡ 4) → (v : List ℕ) → Roomy v (read_move f v)
unfolding read_move Roomy
move_roomy f q [] = tt
move_roomy f q (a ∷ []) = tt
move_roomy f q (a ∷ b ∷ []) = tt
move_roomy f q (a ∷ b ∷ c ∷ []) = tt
move_roomy f q (a ∷ b ∷ c ∷ d ∷ v) = rw (q _ _ _) (omega arith)

exchange_roomy : (v : List ℕ) → Roomy v (read_exchange v)
unfolding read_exchange Roomy name_from
exchange_roomy [] = tt
exchange_roomy (a ∷ []) = tt
exchange_roomy (a ∷ b ∷ []) = tt
exchange_roomy (a ∷ b ∷ c ∷ []) = tt
exchange_roomy (a ∷ b ∷ c ∷ d ∷ []) = tt
exchange_roomy (a ∷ b ∷ c ∷ d ∷ e ∷ []) = tt
exchange_roomy (a ∷ b ∷ c ∷ d ∷ e ∷ f ∷ []) = omega arith
exchange_roomy (a ∷ b ∷ c ∷ d ∷ e ∷ f ∷ g ∷ v) = tt

value_roomy : (t : ℕ) (v : List ℕ) → Roomy v (read_value t v)
unfolding read_value Roomy name_from
value_roomy t v =
    split (eqb t create_tag) (λ q. rw q (create_roomy v)) (λ a.
    split (eqb t remove_tag) (λ q. rw (a, q) (remove_roomy v)) (λ b.
    split (eqb t link_tag) (λ q. rw (a, b, q) (move_roomy link (λ s d n. refl) v)) (λ c.
    split (eqb t rename_tag) (λ q. rw (a, b, c, q) (move_roomy rename (λ s d n. refl) v)) (λ d.
    split (eqb t exchange_tag) (λ q. rw (a, b, c, d, q) (exchange_roomy v)) (λ e. rw (a, b, c, d, e) tt)))))

read_roomy : (t : ℕ) (v : List ℕ) → Roomy v (read_field t v)
unfolding read_field Roomy
read_roomy t v = split (ltb max_value (length v)) (λ q. rw q tt) (λ q. rw q (value_roomy t v))

-- ---- a value as the code sees it
module _ (t : ℕ) (v : List ℕ) where
  seen_roomy : {r : Seen} (x : Seen) → change_of r v ≡ read_field t v → r ≡ x → Roomy v (change_of x v)
  seen_roomy x q e = subst (Roomy v) (sym q ∙ ap (λ (s : Seen). change_of s v) e) (read_roomy t v)

  seen_tried : {r : Seen} (x : Seen) (S : Tree) → change_of r v ≡ read_field t v → r ≡ x → tried_read (change_of x v) S ≡ tried_read (read_field t v) S
  seen_tried x S q e = ap (λ (o : Read). tried_read o S) (ap (λ (s : Seen). change_of s v) (sym e) ∙ q)

  -- the value's rest
  rest : (m : ℕ) → part v m (length v) ≡ drop m v
  rest m = let l = length-drop m v in take_all (length v - m) (drop m v) (omega arith)

  module _ (k d : ℕ) {r : Seen} where
    pub create-room : change_of r v ≡ read_field t v → r ≡ Create k d → 3 ≤ length v
    unfolding change_of Roomy name_from
    create-room q e = seen_roomy (Create k d) q e

    pub create-tried : (S : Tree) {T : Tried} → change_of r v ≡ read_field t v → r ≡ Create k d → T ≡ tried S (create k d (part v 3 (length v))) → T ≡ tried_read (read_field t v) S
    unfolding change_of tried_read
    create-tried S q e h = h ∙ ap (λ (n : List ℕ). tried S (create k d n)) (rest 3) ∙ seen_tried (Create k d) S q e

  pub remove-tried : (e : ℕ) {r : Seen} (S : Tree) {T : Tried} → change_of r v ≡ read_field t v → r ≡ Remove e → T ≡ tried S (remove e) → T ≡ tried_read (read_field t v) S
  unfolding change_of tried_read
  remove-tried x S q e h = h ∙ seen_tried (Remove x) S q e

  module _ (s d : ℕ) {r : Seen} where
    pub link-room : change_of r v ≡ read_field t v → r ≡ Link s d → 4 ≤ length v
    unfolding change_of Roomy name_from
    link-room q e = seen_roomy (Link s d) q e

    pub link-tried : (S : Tree) {T : Tried} → change_of r v ≡ read_field t v → r ≡ Link s d → T ≡ tried S (link s d (part v 4 (length v))) → T ≡ tried_read (read_field t v) S
    unfolding change_of tried_read
    link-tried S q e h = h ∙ ap (λ (n : List ℕ). tried S (link s d n)) (rest 4) ∙ seen_tried (Link s d) S q e

    pub rename-room : change_of r v ≡ read_field t v → r ≡ Rename s d → 4 ≤ length v
    unfolding change_of Roomy name_from
    rename-room q e = seen_roomy (Rename s d) q e

    pub rename-tried : (S : Tree) {T : Tried} → change_of r v ≡ read_field t v → r ≡ Rename s d → T ≡ tried S (rename s d (part v 4 (length v))) → T ≡ tried_read (read_field t v) S
    unfolding change_of tried_read
    rename-tried S q e h = h ∙ ap (λ (n : List ℕ). tried S (rename s d n)) (rest 4) ∙ seen_tried (Rename s d) S q e

  pub exchange-tried : (s d x : ℕ) {r : Seen} (S : Tree) {T : Tried} → change_of r v ≡ read_field t v → r ≡ Exchange s d x → T ≡ tried S (exchange s d x) → T ≡ tried_read (read_field t v) S
  unfolding change_of tried_read
  exchange-tried s d x S q e h = h ∙ seen_tried (Exchange s d x) S q e

  pub unlisted-tried : {r : Seen} (S : Tree) → change_of r v ≡ read_field t v → r ≡ fields.Unlisted → tried_as false S ≡ tried_read (read_field t v) S
  unfolding change_of tried_read
  unlisted-tried S q e = seen_tried fields.Unlisted S q e
