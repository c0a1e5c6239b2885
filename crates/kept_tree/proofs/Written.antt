-- Reads of the entries after a row or a parent was written, and what a kind tells. Assumes nothing.
use mathlib.Core.Path.{◌≡◌, sym, ◌∙◌}
use mathlib.Core.Bool.{true, false}
use mathlib.Core.List.{List}
use Prim.Native.Nat.{ℕ, ◌+◌, ◌*◌, ◌≤◌, ◌<◌}
use native.Mathlib.Omega.{arith}
use lib.Dec.{eqb, ltb}
use lib.ListN.{length}
use borrow.Author.Tests.{eqb-true, eqb-false, ltb-true, ltb-false}
use Rattle.laws.specs.Cells.{cell, put_cell}
use Rattle.laws.proofs.Bools.{split, clash}
use Rattle.laws.proofs.Cells.{past, cell_put, cell_put_beside, cell_put_other, length-put_cell}
use Rattle.access.specs.Kinds.{directory}
use Rattle.access.specs.Limits.{max_entries}
use Rattle.tables.specs.Tables.{entry_width, kind, parent, object, live, is_dir}
use Rattle.tree.specs.Entries.{put_entry, put_parent}

-- ---- a row written
module _ (es : List ℕ) (e k p o : ℕ) where
  a : List ℕ
  a = put_cell es entry_width e 0 k

  b : List ℕ
  b = put_cell a entry_width e 1 p

  b-long : length b ≡ length es
  unfolding b a
  b-long = length-put_cell a entry_width e 1 p ∙ length-put_cell es entry_width e 0 k

  -- read at another row
  pub put_other : (x l : ℕ) → (x ≡ e → ⊥) → l < entry_width → cell (put_entry es e k p o) entry_width x l ≡ cell es entry_width x l
  unfolding put_entry b a
  put_other x l d m =
      cell_put_other b entry_width e 2 o x l d (omega arith) m
      ∙ cell_put_other a entry_width e 1 p x l d (omega arith) m
      ∙ cell_put_other es entry_width e 0 k x l d (omega arith) m

  pub length_put : length (put_entry es e k p o) ≡ length es
  unfolding put_entry b a
  length_put = length-put_cell b entry_width e 2 o ∙ b-long

  -- and at itself
  module _ (w : entry_width * e + 2 < length es) where
    pub kind_put : kind (put_entry es e k p o) e ≡ k
    unfolding put_entry b a
    kind_put = cell_put_beside b entry_width e 2 o 0 (omega arith) ∙ cell_put_beside a entry_width e 1 p 0 (omega arith) ∙ cell_put es entry_width e 0 k (omega arith)

    pub parent_put : parent (put_entry es e k p o) e ≡ p
    unfolding put_entry b a
    parent_put =
        let n : length a ≡ length es = length-put_cell es entry_width e 0 k in
        cell_put_beside b entry_width e 2 o 1 (omega arith) ∙ cell_put a entry_width e 1 p (omega arith)

    pub object_put : object (put_entry es e k p o) e ≡ o
    unfolding put_entry b a
    object_put = let n = b-long in cell_put b entry_width e 2 o (omega arith)

-- ---- a parent written
module _ (es : List ℕ) (e p : ℕ) where
  beside_parent : (x l : ℕ) → (l ≡ 1 → ⊥) → l < entry_width → cell (put_parent es e p) entry_width x l ≡ cell es entry_width x l
  unfolding put_parent
  beside_parent x l d w = split (eqb x e)
      (λ q. rw (eqb-true x e q) (cell_put_beside es entry_width e 1 p l d))
      (λ q. cell_put_other es entry_width e 1 p x l (eqb-false x e q) (omega arith) w)

  pub kind-move : (x : ℕ) → kind (put_parent es e p) x ≡ kind es x
  kind-move x = beside_parent x 0 (λ z. omega arith) (omega arith)

  pub object-move : (x : ℕ) → object (put_parent es e p) x ≡ object es x
  object-move x = beside_parent x 2 (λ z. omega arith) (omega arith)

  pub parent_stay : (x : ℕ) → (x ≡ e → ⊥) → parent (put_parent es e p) x ≡ parent es x
  unfolding put_parent
  parent_stay x d = cell_put_other es entry_width e 1 p x 1 d (omega arith) (omega arith)

  pub parent-move : entry_width * e + 1 < length es → parent (put_parent es e p) e ≡ p
  unfolding put_parent
  parent-move w = cell_put es entry_width e 1 p w

  pub length-move : length (put_parent es e p) ≡ length es
  unfolding put_parent
  length-move = length-put_cell es entry_width e 1 p

-- ---- kinds
pub live_dir : (es : List ℕ) (x : ℕ) → is_dir es x ≡ true → live es x ≡ true
unfolding is_dir live
live_dir es x h = rw (eqb-true (kind es x) directory h)

pub is_dir_lem : (es : List ℕ) (x : ℕ) → is_dir es x ≡ true → kind es x ≡ directory
unfolding is_dir
is_dir_lem es x h = eqb-true (kind es x) directory h

pub live_same : (es es' : List ℕ) (x : ℕ) → kind es' x ≡ kind es x → live es' x ≡ live es x
unfolding live
live_same es es' x e = rw e

pub dir_same : (es es' : List ℕ) (x y : ℕ) → kind es' x ≡ kind es y → is_dir es' x ≡ is_dir es y
unfolding is_dir
dir_same es es' x y e = rw e

pub dead_zero : (es : List ℕ) (x : ℕ) → kind es x ≡ 0 → live es x ≡ false
unfolding live
dead_zero es x h = rw h

pub in_table : (es : List ℕ) → length es ≡ entry_width * max_entries → (e : ℕ) → live es e ≡ true → e < max_entries
in_table es w e l = split (ltb e max_entries) (ltb-true e max_entries)
    (λ q. let g : max_entries ≤ e = ltb-false e max_entries q in
    clash (live es e) l (dead_zero es e (sym (past es (3 * e + 0) (omega arith)))))
