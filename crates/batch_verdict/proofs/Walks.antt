-- A walk by rows that are right comes to the verdict. Assumes nothing.
use mathlib.Core.Path.{◌≡◌, refl, ap, ◌∙◌}
use mathlib.Core.Bool.{true, cond, false≢true}
use mathlib.Core.List.{List, [], ◌∷◌}
use Prim.Native.Nat.{ℕ, zero, suc, ◌+◌, ◌*◌, ◌≤◌, ◌<◌}
use native.Mathlib.Omega.{arith}
use lib.Dec.{eqb, ltb}
use borrow.Author.Tests.{eqb-true, eq-eqb, ltb-true, ltb-false}
use Rattle.laws.specs.Tests.{elem}
use Rattle.laws.proofs.Bools.{split, either, or_cases, or_left, or_right}
use Rattle.laws.proofs.Cells.{past}
use Rattle.access.specs.Limits.{max_domain, max_threads}
use Rattle.access.specs.declared.rights.Rights.{Rights}
use Rattle.tables.specs.Tables.{thread_width, live, youngest}
use Rattle.tables.specs.Layers.{layer_parent, layer_at}
use Rattle.judge.specs.Blame.{none}
use Rattle.judge.specs.Domain.{chain, domain}
use Rattle.judge.proofs.Laws.{meet-denied}
use Rattle.fs.specs.declared.verdict.Move.{Move}
use Rattle.fs.specs.Against.{at_source, at_target}
use Rattle.fs.proofs.Against.{denied_agrees, needs_by, crossed-is}
use Rattle.denied_rows.specs.Rows.{top_of, RowsReady, Filled, RowsKept, RowAdded, row_of, RowRight}
use Rattle.denied_rows.proofs.Kept.{live-few, row_right_lem}
use Rattle.verdict.specs.declared.Denial.{Denial}
use Rattle.verdict.specs.declared.Denial.TheVariants.{Denied}
use Rattle.verdict.specs.declared.Question.TheVariants.{Entry, Move as Moved}
use Rattle.verdict.specs.Denial.{denied_by, crossed_by, kept_at, kept_set, denial, thread_denial}
use Rattle.domain_order.specs.Order.{Walkable, order_of, listed, OrderRight}
use Rattle.domain_order.proofs.Orders.{order_right, order_lists}
use Rattle.row_walks.specs.Rows.{row_denied, rows_denied, rows_crossed}
use Rattle.batch_verdict.specs.Batch.{BatchReady}

-- ---- the layers of a chain
chain-below : (ls : List ℕ) (b : ℕ) → ((l : ℕ) → l < b → layer_parent ls l ≤ b) → (n y : ℕ) → y ≤ b → (l : ℕ) → elem l (chain ls n y) ≡ true → l < b
unfolding chain elem
chain-below ls b up zero y h l m = absurd (false≢true m)
chain-below ls b up (suc n) zero h l m = absurd (false≢true m)
chain-below ls b up (suc n) (suc k) h l m =
    either (or_cases (eqb l k) (elem l (chain ls n (layer_parent ls k))) m)
    (λ q. let z = eqb-true l k q in omega arith)
    (λ q. chain-below ls b up n (layer_parent ls k) (up k h) l q)

-- ---- sets that are the same at each layer of a list
denial-same : (a b a' b' : ℕ → ℕ) (k set : ℕ) (D : List ℕ) → ((l : ℕ) → elem l D ≡ true → (a l ≡ a' l) × (b l ≡ b' l)) → denial a b k set D ≡ denial a' b' k set D
unfolding denial elem
denial-same a b a' b' k set [] h = refl
denial-same a b a' b' k set (l ∷ D) h =
    let e = h l (or_left (eqb l l) (elem l D) (eq-eqb l l refl)) in
    rw (e.0, e.1) (ap (λ (d : Denial). cond (eqb (a' l) 0) d (Denied l (record { 0 = a' l }))) (denial-same a b a' b' (kept_at k (suc l) (b' l)) (kept_set k set (b' l)) D (λ j m. h j (or_right (eqb j l) (elem j D) m))))

-- D is the thread's domain
module _ (es ls ps ts : List ℕ) (t : ℕ) (w : Walkable ls (youngest ts t)) {D : List ℕ} (q : D ≡ chain ls max_domain (youngest ts t)) where
  below : (l : ℕ) → elem l (chain ls max_domain (youngest ts t)) ≡ true → l < top_of ls
  below l m = chain-below ls (top_of ls) w.goes max_domain (youngest ts t) w.starts l m

  -- rights at an entry, by its row
  pub entry_by : (row : List ℕ) (e : ℕ) (asked : Rights) → RowRight es ls ps row e → {r : Denial}
      → r ≡ denial (row_denied row asked.0) none 0 0 D → r ≡ thread_denial es ls ps ts t (Entry e asked)
  unfolding thread_denial denied_by crossed_by domain
  entry_by row e asked R h =
      h ∙ rw q (denial-same _ _ _ _ 0 0 (chain ls max_domain (youngest ts t)) (λ l m. (rw (R.right l (below l m)) (meet-denied es (layer_at ls ps l) e asked.0), refl)))

  -- a move, by the rows of its directories
  pub move_by : (row1 row2 : List ℕ) (m : Move) → RowRight es ls ps row1 m.source → RowRight es ls ps row2 m.target → {r : Denial}
      → r ≡ denial (rows_denied row1 row2 m) (rows_crossed ls ps row1 row2 m) 0 0 D → r ≡ thread_denial es ls ps ts t (Moved m)
  unfolding thread_denial denied_by crossed_by domain
  move_by row1 row2 m R1 R2 h =
      h ∙ rw q (denial-same _ _ _ _ 0 0 (chain ls max_domain (youngest ts t)) (λ l k.
      let L = layer_at ls ps l in
      let a1 = denied_agrees es L m.source (at_source m) (R1.right l (below l k)) in
      let a2 = denied_agrees es L m.target (at_target m) (R2.right l (below l k)) in
      (needs_by es L m a1 a2 refl, crossed-is es L m a1 a2 refl)))

-- ---- from one request to the next
module _ (es ls ps ts orders : List ℕ) (top : ℕ) (rows marks : List ℕ) (Z : BatchReady es ls ps ts orders top rows marks) where
  pub ready_then : {rows' marks' : List ℕ} {e : ℕ} → RowAdded es ls ps marks rows' marks' e → BatchReady es ls ps ts orders top rows' marks'
  ready_then A = record { rows_ready = Z.rows_ready; long = Z.long; walks = Z.walks; ordered = Z.ordered; highest = Z.highest; kept = A.kept }

  -- a thread that names a layer
  module _ (t : ℕ) {y : ℕ} (q : y ≡ youngest ts t) (d : y ≡ 0 → ⊥) where
    pub thread-few : t < max_threads
    thread-few = split (ltb t max_threads)
        (λ p. ltb-true t max_threads p)
        (λ p.
        let g = ltb-false t max_threads p in
        let w = Z.long in
        let z = past ts (thread_width * t + 1) (omega arith) in
        absurd (d (omega arith)))

    module _ {order : List ℕ} (o : order ≡ order_of orders t) where
      pub order_read : OrderRight order
      order_read = order_right ls ts orders Z.ordered t thread-few o (Z.walks t)

      pub order_domain : listed order 0 max_domain ≡ chain ls max_domain (youngest ts t)
      order_domain = order_lists ls ts orders Z.ordered t thread-few o

-- a row that was filled
pub row_filled : (es ls ps : List ℕ) → RowsReady es ls ps → {rows marks row : List ℕ} {e : ℕ} → RowsKept es ls ps rows marks → live es e ≡ true → Filled marks e → row ≡ row_of rows e → RowRight es ls ps row e
row_filled es ls ps R {rows} {marks} {row} {e} K l f q = row_right_lem es ls ps rows marks K e (live-few es ls ps R e l) f q
