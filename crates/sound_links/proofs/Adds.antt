-- An entry that goes into the index of those before it, and whether it agrees with them. Assumes nothing.
use mathlib.Core.Path.{◌≡◌, sym, ap, ◌∙◌}
use mathlib.Core.Bool.{Bool, true}
use mathlib.Core.List.{List}
use Prim.Native.Nat.{ℕ, ◌+◌, ◌-◌, ◌<◌}
use native.Mathlib.Omega.{arith}
use lib.ListN.{get_or, set}
use borrow.Author.Tests.{eqb-true}
use Rattle.laws.proofs.Tests.{all_of-at}
use Rattle.access.specs.Limits.{max_entries}
use Rattle.tables.specs.Tables.{kind, object, live}
use Rattle.sound_objects.specs.Objects.{bucket_of, key_of, Found, Missed, IndexedBelow}
use Rattle.sound_objects.proofs.Live.{first, first_kind}
use Rattle.sound_objects.proofs.Trees.{found_some, found-object, found-node, missed-none}
use Rattle.sound_objects.proofs.Index.{stands_alike, index_same, index_root, index_child}
use Rattle.sound_tree.specs.Tree.{links_sound}
use Rattle.sound_tree.specs.Fast.{kinds_agree}
use Rattle.sound_tree.proofs.Rows.{links-none, links-same}

agree_kinds : (k l : ℕ) → kinds_agree k l ≡ true → l ≡ k
unfolding kinds_agree
agree_kinds k l h = sym (eqb-true k l (all_of-at _ 0 h))

held_entry : {f : ℕ} → f + 1 - 1 ≡ f
held_entry = omega arith

-- live entry e, whose object falls into bucket b
module _ (es heads links : List ℕ) {e b : ℕ} (k : e < max_entries) (u : IndexedBelow es heads links e) (l : live es e ≡ true) (q : b ≡ bucket_of (object es e)) where
  -- the bucket is empty
  pub adds_root : get_or heads b 0 ≡ 0 → (true ≡ links_sound es e) × IndexedBelow es (set heads b (e + 1)) links (e + 1)
  adds_root z =
      let y = ap (λ (i : ℕ). get_or heads i 0) (sym q) ∙ z in
      (links-none es e (λ f i a p. found_some (u.held f (object es e) i a p).found y), rw q (index_root es u k l y))

  -- its object has a node
  module _ (f : ℕ) (s : Found es links (object es e) (get_or heads b 0) (key_of (object es e)) (f + 1)) where
    node_in : (f < e) × (live es f ≡ true)
    node_in = let r = u.roots b (found_some s) in let n = found-node es links u.trees.nodes s r.0 r.1 in (omega arith, rw held_entry at n.1)

    pub adds_same : {r : Bool} → r ≡ kinds_agree (first es e) (first es f) → (r ≡ links_sound es e) × (r ≡ true → IndexedBelow es heads links (e + 1))
    adds_same {r} h =
        let t : Found es links (object es e) (get_or heads (bucket_of (object es e)) 0) (key_of (object es e)) (f + 1) = rw q at s in
        let g : r ≡ kinds_agree (kind es e) (kind es f) = rw (first_kind es e, first_kind es f) at h in
        let z : f + 1 - 1 ≡ f = omega arith in (
          links-same es e f node_in.0 l node_in.1 (rw z at (found-object s)) (λ j i a p. rw z at (stands_alike es (u.held j (object es e) i a p) t)) g,
          λ y. index_same es u t (rw z (agree_kinds (kind es e) (kind es f) (sym g ∙ y))),
        )

  -- or an empty cell
  pub adds_child : {p : ℕ} → Missed es links (object es e) (get_or heads b 0) (key_of (object es e)) p → (true ≡ links_sound es e) × IndexedBelow es heads (set links p (e + 1)) (e + 1)
  adds_child {p} m =
      let t : Missed es links (object es e) (get_or heads (bucket_of (object es e)) 0) (key_of (object es e)) p = rw q at m in
      (links-none es e (λ f i a r. missed-none t (u.held f (object es e) i a r).found), index_child es u k l t)
