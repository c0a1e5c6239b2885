-- Whether an object is a file's, by the node that stands for its entries. Assumes nothing.
use mathlib.Core.Path.{◌≡◌, sym, ap, ◌∙◌}
use mathlib.Core.Bool.{Bool, true, false, not}
use mathlib.Core.List.{List}
use Prim.Native.Nat.{ℕ, ◌+◌, ◌-◌, ◌<◌}
use native.Mathlib.Omega.{arith}
use lib.Dec.{eqb}
use lib.ListN.{get_or}
use Rattle.laws.proofs.Bools.{split, clash, not_of_true, not_of_false}
use Rattle.laws.proofs.Tests.{any_found, none_of}
use Rattle.access.specs.Kinds.{directory}
use Rattle.access.specs.Limits.{max_entries}
use Rattle.tables.specs.Tables.{kind, live, is_dir}
use Rattle.sound_objects.specs.Objects.{bucket_of, key_of, Found, Missed, Stands, Indexed}
use Rattle.sound_objects.proofs.Live.{first, first_kind, same_dir}
use Rattle.sound_objects.proofs.Trees.{found_some, found-object, found-node, missed-none}
use Rattle.sound_objects.proofs.Index.{stands_alike}
use Rattle.sound_rules.specs.Rules.{is_file_of, file_object}
use Rattle.sound_rules.proofs.Facts.{file_of_lem, file-object, file-live, file_no_dir}

-- object o, which falls into bucket b
module _ (es heads links : List ℕ) (o : ℕ) {b : ℕ} (u : Indexed es heads links) (q : b ≡ bucket_of o) where
  no_file : ((e : ℕ) → e < max_entries → is_file_of es o e ≡ true → ⊥) → false ≡ file_object es o
  unfolding file_object
  no_file h = sym (none_of (is_file_of es o) max_entries (λ e k. split (is_file_of es o e) (λ y. absurd (h e k y)) (λ y. y)))

  -- the node that stands for a file of it
  stands_for : (e : ℕ) → e < max_entries → is_file_of es o e ≡ true → Stands es heads links o (kind es e)
  stands_for e k h = u.held e o k (file-live es o e h) (file-object es o e h)

  -- the bucket is empty
  pub file_no_root : get_or heads b 0 ≡ 0 → false ≡ file_object es o
  file_no_root z = no_file (λ e k h. found_some (stands_for e k h).found (ap (λ (i : ℕ). get_or heads i 0) (sym q) ∙ z))

  -- the object has no node
  pub file_no_node : {p : ℕ} → Missed es links o (get_or heads b 0) (key_of o) p → false ≡ file_object es o
  file_no_node m = no_file (λ e k h. missed-none (rw q at m) (stands_for e k h).found)

  -- or it has one
  module _ (f : ℕ) (s : Found es links o (get_or heads b 0) (key_of o) (f + 1)) where
    own : f + 1 - 1 ≡ f
    own = omega arith

    node_in : (f < max_entries) × (live es f ≡ true)
    node_in = let r = u.roots b (found_some s) in let n = found-node es links u.trees.nodes s r.0 r.1 in (omega arith, rw own at n.1)

    file-node : not (is_dir es f) ≡ file_object es o
    unfolding file_object
    file-node = split (is_dir es f)
        (λ y. not_of_true _ y ∙ no_file (λ e k h. clash (is_dir es e) (same_dir es e f (rw own at (stands_alike es (stands_for e k h) (rw q at s))) ∙ y) (file_no_dir es o e h)))
        (λ y. not_of_false _ y ∙ any_found (is_file_of es o) max_entries f node_in.0 (file_of_lem es o f node_in.1 y (rw own at (found-object s))))

    pub file_by_node : {r : Bool} → r ≡ not (eqb (first es f) directory) → r ≡ file_object es o
    unfolding is_dir
    file_by_node h = h ∙ ap (λ (k : ℕ). not (eqb k directory)) (first_kind es f) ∙ file-node
