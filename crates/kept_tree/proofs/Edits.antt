-- What a change of the tree leaves: the frame of each change. Assumes nothing.
use mathlib.Core.Path.{◌≡◌, refl, sym, ◌∙◌}
use mathlib.Core.Bool.{Bool, true, false}
use mathlib.Core.List.{List}
use Prim.Native.Nat.{ℕ, ◌+◌, ◌*◌, ◌<◌}
use native.Mathlib.Omega.{arith}
use lib.Dec.{eqb}
use lib.ListN.{length}
use borrow.Author.Tests.{eqb-true, eqb-false, ne_eqb}
use Rattle.laws.proofs.Bools.{split, clash}
use Rattle.laws.proofs.Cells.{cell_put, cell_put_other}
use Rattle.tables.specs.Tables.{kind, parent, object, live, is_dir}
use Rattle.sound_tree.proofs.Facts.{Tree}
use Rattle.tree.specs.Entries.{put_entry, put_parent, free_row}
use Rattle.kept_tree.proofs.Written.{put_other, kind-move, object-move, length-move}

-- what is not gone keeps its kind and its object, and its parent is a directory that was there before and is not gone
pub record Frame (es es' : List ℕ) (gone : ℕ → Bool) : Type 0 where
  pub keeps_kind : (x : ℕ) → live es x ≡ true → gone x ≡ false → kind es' x ≡ kind es x
  pub keeps_object : (x : ℕ) → live es x ≡ true → gone x ≡ false → object es' x ≡ object es x
  pub under_dir : (x : ℕ) → live es x ≡ true → gone x ≡ false → is_dir es (parent es' x) ≡ true
  pub under_kept : (x : ℕ) → live es x ≡ true → gone x ≡ false → gone (parent es' x) ≡ false

-- no live entry stands in e
abbrev pub Childless : List ℕ → ℕ → Type 0
Childless es e = (x : ℕ) → live es x ≡ true → parent es x ≡ e → ⊥

module _ (es : List ℕ) (s d : ℕ) where
  -- the parent after a move
  pub at-parent : (z : ℕ) → 3 * s + 1 < length es → (P : ℕ → Type 0) → (z ≡ s → P d) → ((z ≡ s → ⊥) → P (parent es z)) → P (parent (put_parent es s d) z)
  unfolding put_parent
  at-parent z w P here else = split (eqb z s)
      (λ q. let e = eqb-true z s q in rw (e, cell_put es 3 s 1 d w) (here e))
      (λ q. let n : (z ≡ s → ⊥) = eqb-false z s q in rw (cell_put_other es 3 s 1 d z 1 n (omega arith) (omega arith)) (else n))

-- ---- rows
module _ (es : List ℕ) (next : ℕ) (Z : Tree es next) where
  pub inside : (e : ℕ) → live es e ≡ true → 3 * e + 1 < length es
  inside e l = let h = Z.small e l in let w = Z.long in omega arith

  -- ---- frames
  pub still_frame : (gone : ℕ → Bool) → ((z : ℕ) → gone z ≡ false) → Frame es es gone
  still_frame gone q = record {
    keeps_kind = λ z a g. refl;
    keeps_object = λ z a g. refl;
    under_dir = λ z a g. Z.in_dir z a;
    under_kept = λ z a g. q (parent es z);
  }

  -- a new row where none was: create and link
  pub fill_frame : (n k d o : ℕ) → live es n ≡ false → (gone : ℕ → Bool) → ((z : ℕ) → gone z ≡ false) → Frame es (put_entry es n k d o) gone
  fill_frame n k d o free gone q =
      let off : (z : ℕ) → live es z ≡ true → z ≡ n → ⊥ = λ z a e. clash (live es n) (rw e at a) free in
      record {
        keeps_kind = λ z a g. put_other es n k d o z 0 (off z a) (omega arith);
        keeps_object = λ z a g. put_other es n k d o z 2 (off z a) (omega arith);
        under_dir = λ z a g. rw (put_other es n k d o z 1 (off z a) (omega arith)) (Z.in_dir z a);
        under_kept = λ z a g. q (parent (put_entry es n k d o) z);
      }

  -- a row cleared, in entries with the kinds and objects of es, where no live entry's parent is in it
  pub clear_frame : (es1 : List ℕ) (x : ℕ) (gone : ℕ → Bool) → ((z : ℕ) → gone z ≡ eqb z x) → ((z : ℕ) → kind es1 z ≡ kind es z) → ((z : ℕ) → object es1 z ≡ object es z)
      → ((z : ℕ) → live es z ≡ true → is_dir es (parent es1 z) ≡ true) → ((z : ℕ) → live es z ≡ true → parent es1 z ≡ x → ⊥) → Frame es (free_row es1 x) gone
  unfolding free_row
  clear_frame es1 x gone q sk so dir away =
      let off : (z : ℕ) → gone z ≡ false → z ≡ x → ⊥ = λ z g. eqb-false z x (sym (q z) ∙ g) in
      record {
        keeps_kind = λ z a g. put_other es1 x 0 0 0 z 0 (off z g) (omega arith) ∙ sk z;
        keeps_object = λ z a g. put_other es1 x 0 0 0 z 2 (off z g) (omega arith) ∙ so z;
        under_dir = λ z a g. rw (put_other es1 x 0 0 0 z 1 (off z g) (omega arith)) (dir z a);
        under_kept = λ z a g. rw (put_other es1 x 0 0 0 z 1 (off z g) (omega arith)) (q (parent es1 z) ∙ ne_eqb (parent es1 z) x (away z a));
      }

  -- s goes under d
  pub moved_dir : (s d z : ℕ) → live es s ≡ true → is_dir es d ≡ true → live es z ≡ true → is_dir es (parent (put_parent es s d) z) ≡ true
  moved_dir s d z ls kd a = at-parent es s d z (inside s ls) (λ p. is_dir es p ≡ true) (λ e. kd) (λ n. Z.in_dir z a)

  pub move_frame : (s d : ℕ) → live es s ≡ true → is_dir es d ≡ true → (gone : ℕ → Bool) → ((z : ℕ) → gone z ≡ false) → Frame es (put_parent es s d) gone
  move_frame s d ls kd gone q = record {
    keeps_kind = λ z a g. kind-move es s d z;
    keeps_object = λ z a g. object-move es s d z;
    under_dir = λ z a g. moved_dir s d z ls kd a;
    under_kept = λ z a g. q (parent (put_parent es s d) z);
  }

  -- and frees y, which stood in d
  pub replace_frame : (s d y : ℕ) → live es s ≡ true → is_dir es d ≡ true → live es y ≡ true → parent es y ≡ d → Childless es y
      → (gone : ℕ → Bool) → ((z : ℕ) → gone z ≡ eqb z y) → Frame es (free_row (put_parent es s d) y) gone
  replace_frame s d y ls kd ly py cy gone q = clear_frame (put_parent es s d) y gone q
      (λ z. kind-move es s d z)
      (λ z. object-move es s d z)
      (λ z a. moved_dir s d z ls kd a)
      (λ z a. at-parent es s d z (inside s ls) (λ p. p ≡ y → ⊥) (λ e w. cy y ly (py ∙ w)) (λ n. cy z a))

  -- s goes under d, and x to where s stood
  pub swap_frame : (s d x : ℕ) → live es s ≡ true → is_dir es d ≡ true → live es x ≡ true → (gone : ℕ → Bool) → ((z : ℕ) → gone z ≡ false)
      → Frame es (put_parent (put_parent es s d) x (parent es s)) gone
  swap_frame s d x ls kd lx gone q =
      let es1 = put_parent es s d in
      let p = parent es s in
      record {
        keeps_kind = λ z a g. kind-move es1 x p z ∙ kind-move es s d z;
        keeps_object = λ z a g. object-move es1 x p z ∙ object-move es s d z;
        under_dir = λ z a g. at-parent es1 x p z (rw (length-move es s d) (inside x lx)) (λ u. is_dir es u ≡ true) (λ e. Z.in_dir s ls) (λ n. moved_dir s d z ls kd a);
        under_kept = λ z a g. q (parent (put_parent es1 x p) z);
      }
