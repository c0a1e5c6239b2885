-- How rows come to be filled, and stay right. Assumes nothing.
use mathlib.Core.Path.{◌≡◌, refl, sym, ap, ap₂, ◌∙◌}
use mathlib.Core.Bool.{Bool, true, false, cond}
use mathlib.Core.List.{List}
use Prim.Native.Nat.{ℕ, zero, suc, ◌+◌, ◌-◌, ◌*◌, ◌≤◌, ◌<◌}
use native.Mathlib.Nat.{not-suc-le-zero}
use native.Mathlib.Numerals.{sub-one}
use native.Mathlib.Omega.{arith}
use lib.Bits.{and_le_l, xor_lt, or_comm}
use lib.Dec.{eqb}
use lib.ListN.{length, get_or, set, replicate, length-set, length-replicate}
use lib.Seq.{get_or-set_same, get_or-set_other}
use borrow.Author.Tests.{eqb-true, eqb-false, eq-eqb, ne_eqb}
use Rattle.laws.specs.Cells.{cell}
use Rattle.laws.proofs.Bools.{split, clash}
use Rattle.laws.proofs.Cells.{cell_put, cell_put_beside, cell_put_other, part_at, part_length, get_or-zeros}
use Rattle.access.specs.Limits.{max_entries, max_layers}
use Rattle.access.specs.Rights.{meet, without, all_fs}
use Rattle.tables.specs.Tables.{parent, object, live, path_rule}
use Rattle.tables.specs.Layers.{Layer, layer_fs, layer_in_use, layer_at}
use Rattle.sound_tree.specs.Tree.{reaches}
use Rattle.sound_tree.proofs.Climb.{reaches-none}
use Rattle.sound_tree.proofs.Facts.{in_table}
use Rattle.judge.specs.Rules.{rights_on}
use Rattle.judge.specs.Judge.{own_rights, granted, handled_by, handled, denied}
use Rattle.judge.proofs.Climbs.{without-join}
use Rattle.judge.proofs.Laws.{granted_root, granted-on}
use Rattle.denied_rows.specs.Rows.{top_below, top_of, RowsReady, Filled, RowsKept, RowAdded, above, RowTo, row_of, RowRight}

-- ---- the highest layer in use
module _ (ls : List ℕ) where
  pub top_bound : (n : ℕ) → top_below ls n ≤ n
  unfolding top_below
  top_bound zero = omega arith
  top_bound (suc n) = split (layer_in_use ls n) (λ q. rw q (omega arith)) (λ q. rw q (let h = top_bound n in omega arith))

  pub top_above : (n l : ℕ) → l < n → layer_in_use ls l ≡ true → l < top_below ls n
  unfolding top_below
  top_above zero l h u = absurd (not-suc-le-zero h)
  top_above (suc n) l h u = split (layer_in_use ls n) (λ q. rw q h)
      (λ q. rw q (top_above n l (let d : (l ≡ n → ⊥) = λ z. clash (layer_in_use ls n) (rw z at u) q in omega arith) u))

  pub top_few : top_of ls ≤ max_layers
  unfolding top_of
  top_few = top_bound max_layers

  pub top_past : (l : ℕ) → l < max_layers → layer_in_use ls l ≡ true → l < top_of ls
  unfolding top_of
  top_past l h u = top_above max_layers l h u

  -- a search from above
  pub top_found : (n : ℕ) → (n ≡ 0 → ⊥) → {b : Bool} → b ≡ layer_in_use ls (n - 1) → b ≡ true → n ≡ top_below ls n
  unfolding top_below
  top_found zero d q h = absurd (d refl)
  top_found (suc n) d q h = rw (rw (sub-one (suc n)) at (sym q ∙ h)) refl

  pub top_down : (n : ℕ) → (n ≡ 0 → ⊥) → {b : Bool} → b ≡ layer_in_use ls (n - 1) → b ≡ false → top_below ls n ≡ top_below ls (n - 1)
  unfolding top_below
  top_down zero d q h = absurd (d refl)
  top_down (suc n) d q h = rw (sub-one (suc n), rw (sub-one (suc n)) at (sym q ∙ h)) refl

  pub top_none : (n : ℕ) → n ≡ 0 → 0 ≡ top_below ls n
  unfolding top_below
  top_none n z = rw z refl

-- ---- a set that fits a cell
pub without-few : (a b : ℕ) → a ≤ all_fs → without a b ≤ all_fs
without-few a b h = let k = xor_lt 16 a (meet a b) (omega arith) (let l = and_le_l a b in omega arith) in omega arith

pub live-few : (es ls ps : List ℕ) → RowsReady es ls ps → (e : ℕ) → live es e ≡ true → e < max_entries
live-few es ls ps R e h = in_table es R.long e h

-- a climb from below the root takes a step
pub some_left : (es : List ℕ) (n e : ℕ) → reaches es n e ≡ true → (e ≡ 0 → ⊥) → n ≡ 0 → ⊥
some_left es n e r d z = d (eqb-true e 0 (sym (reaches-none es n e z) ∙ r))

pub masks-few : (es ls ps : List ℕ) → RowsReady es ls ps → (l : ℕ) → l < max_layers → handled_by (layer_fs ls l) ≤ all_fs
unfolding handled layer_at
masks-few es ls ps R l h = R.masks l h

-- ---- from the parent to the entry
module _ (es : List ℕ) (L : Layer) (e : ℕ) where
  -- what a layer denies an entry: what it denies the parent, without the rights of its own rule; at the root what it handles, without them
  pub denied_up : reaches es max_entries e ≡ true → without (cond (eqb e 0) (handled L) (denied es L (parent es e))) (own_rights es L.rules e) ≡ denied es L e
  unfolding denied
  denied_up r = split (eqb e 0)
      (λ q.
      let z = eqb-true e 0 q in
      rw q (ap (without (handled L)) (sym (ap (granted es L) z ∙ granted_root es L ∙ ap (own_rights es L.rules) (sym z)))))
      (λ q.
      let own = own_rights es L.rules e in
      let up = granted es L (parent es e) in
      rw q (sym (without-join (handled L) up own) ∙ ap (without (handled L)) (or_comm up own ∙ sym (granted-on es L e r (eqb-false e 0 q)))))

-- ---- what is above an entry
module _ (es ls rows : List ℕ) (e l : ℕ) where
  pub above_root : e ≡ 0 → {fs r : ℕ} → fs ≡ layer_fs ls l → r ≡ handled_by fs → handled_by (layer_fs ls l) ≤ all_fs → (r ≡ above es ls rows e l) × (r ≤ all_fs)
  unfolding above
  above_root z p q b = let h = q ∙ ap handled_by p in (h ∙ rw (eq-eqb e 0 z) refl, rw h b)

  pub above_parent : (e ≡ 0 → ⊥) → cell rows max_layers (parent es e) l < 65536 → (cell rows max_layers (parent es e) l ≡ above es ls rows e l) × (cell rows max_layers (parent es e) l ≤ all_fs)
  unfolding above
  above_parent d b = (rw (ne_eqb e 0 d) refl, omega arith)

-- ---- the cells of a row
module _ (es ls ps rows : List ℕ) (e : ℕ) where
  pub row_none : RowTo es ls ps rows rows e 0
  row_none = record { size = refl; new = λ l h. absurd (not-suc-le-zero h); rest = λ l h. refl; others = λ f l d h. refl }

  module _ (now : List ℕ) (n : ℕ) (R : RowTo es ls ps rows now e n) (b : n < max_layers) where
    -- what is above is not yet written, whatever the parent is
    above_same : above es ls now e n ≡ above es ls rows e n
    unfolding above
    above_same = split (eqb (parent es e) e)
        (λ q. let z = eqb-true (parent es e) e q in ap (cond (eqb e 0) (handled_by (layer_fs ls n))) (rw z (R.rest n (omega arith))))
        (λ q. ap (cond (eqb e 0) (handled_by (layer_fs ls n))) (R.others (parent es e) n (eqb-false (parent es e) e q) b))

    pub row_more : max_layers * e + n < length now → {held own v : ℕ} → held ≡ above es ls now e n → own ≡ rights_on (layer_at ls ps n).rules path_rule (object es e) → v ≡ without held own
        → RowTo es ls ps rows (set now (max_layers * e + n) v) e (n + 1)
    row_more i {held} {own} {v} p q r =
        record {
          size = length-set now (max_layers * e + n) v ∙ R.size;
          new = λ l h. split (eqb l n)
              (λ w. let z = eqb-true l n w in rw z (cell_put now max_layers e n v i ∙ r ∙ ap₂ without (p ∙ above_same) q))
              (λ w. cell_put_beside now max_layers e n v l (eqb-false l n w) ∙ R.new l (let d = eqb-false l n w in omega arith));
          rest = λ l h. cell_put_beside now max_layers e n v l (λ z. omega arith) ∙ R.rest l (omega arith);
          others = λ f l d h. cell_put_other now max_layers e n v f l d b h ∙ R.others f l d h;
        }

-- ---- marks
module _ (marks : List ℕ) (e : ℕ) (h : e < length marks) where
  mark_own : Filled (set marks e 1) e
  mark_own z = let k = get_or-set_same marks e 1 0 h in omega arith

  mark_other : (f : ℕ) → (f ≡ e → ⊥) → get_or (set marks e 1) f 0 ≡ get_or marks f 0
  mark_other f d = get_or-set_other marks e f 1 0 d

  mark_still : (f : ℕ) → Filled marks f → Filled (set marks e 1) f
  mark_still f k z = split (eqb f e)
      (λ q. mark_own (rw (eqb-true f e q) at z))
      (λ q. k (sym (mark_other f (eqb-false f e q)) ∙ z))

-- ---- the rows as a whole
module _ (es ls ps : List ℕ) where
  -- none is filled at first
  pub rows_none : RowsKept es ls ps (replicate (max_layers * max_entries) 0) (replicate max_entries 0)
  rows_none = record {
    cells = length-replicate {A = ℕ} (max_layers * max_entries) 0;
    few = length-replicate {A = ℕ} max_entries 0;
    right = λ e l f h. absurd (f (get_or-zeros max_entries e));
  }

  module _ (rows marks : List ℕ) (K : RowsKept es ls ps rows marks) (e : ℕ) where
    -- it is filled already
    pub row_there : Filled marks e → RowAdded es ls ps marks rows marks e
    row_there h = record { kept = K; filled = h; still = λ f k. k }

    -- it is filled now
    module _ (R : RowsReady es ls ps) (alive : live es e ≡ true) (P : (e ≡ 0 → ⊥) → Filled marks (parent es e)) {rows' : List ℕ} {top : ℕ} (q : top ≡ top_of ls) (N : RowTo es ls ps rows rows' e top) where
      above-denied : (l : ℕ) → l < top_of ls → above es ls rows e l ≡ cond (eqb e 0) (handled (layer_at ls ps l)) (denied es (layer_at ls ps l) (parent es e))
      unfolding above handled layer_at
      above-denied l h = split (eqb e 0) (λ z. rw z refl) (λ z. rw z (K.right (parent es e) l (P (eqb-false e 0 z)) h))

      cell-right : (l : ℕ) → l < top_of ls → cell rows' max_layers e l ≡ denied es (layer_at ls ps l) e
      cell-right l h =
          N.new l (rw q h)
          ∙ ap (λ (m : ℕ). without m (own_rights es (layer_at ls ps l).rules e)) (above-denied l h)
          ∙ denied_up es (layer_at ls ps l) e (R.ends e alive)

      pub row_added : e < max_entries → RowAdded es ls ps marks rows' (set marks e 1) e
      row_added b =
          let w = K.few in
          let i : e < length marks = omega arith in
          record {
            kept = record {
              cells = N.size ∙ K.cells;
              few = length-set marks e 1 ∙ K.few;
              right = λ f l d h. split (eqb f e)
                  (λ z. rw (eqb-true f e z) (cell-right l h))
                  (λ z. let n = eqb-false f e z in N.others f l n (let t = top_few ls in omega arith) ∙ K.right f l (λ k. d (mark_other marks e i f n ∙ k)) h);
            };
            filled = mark_own marks e i;
            still = mark_still marks e i;
          }

  -- first the one above
  pub row_then : {marks rows₁ marks₁ rows₂ marks₂ : List ℕ} {p e : ℕ} → RowAdded es ls ps marks rows₁ marks₁ p → RowAdded es ls ps marks₁ rows₂ marks₂ e → RowAdded es ls ps marks rows₂ marks₂ e
  row_then A B = record { kept = B.kept; filled = B.filled; still = λ f h. B.still f (A.still f h) }

  -- a filled row by itself
  pub row_right_lem : (rows marks : List ℕ) → RowsKept es ls ps rows marks → (e : ℕ) → e < max_entries → Filled marks e → {row : List ℕ} → row ≡ row_of rows e → RowRight es ls ps row e
  unfolding row_of
  row_right_lem rows marks K e b f q =
      let w = K.cells in
      let from = max_layers * e in
      rw q
      (record {
        long = part_length rows from (from + max_layers) (omega arith) ∙ (omega arith);
        right = λ l h. part_at rows from (from + max_layers) l (let t = top_few ls in omega arith) ∙ K.right e l f h;
      })
