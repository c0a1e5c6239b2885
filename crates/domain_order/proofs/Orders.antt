-- How orders come to be filled, and what they list. Assumes nothing.
use mathlib.Core.Path.{◌≡◌, refl, ap, ◌∙◌}
use mathlib.Core.List.{List}
use Prim.Native.Nat.{ℕ, zero, suc, ◌+◌, ◌-◌, ◌*◌, ◌≤◌, ◌<◌}
use native.Mathlib.Nat.{not-suc-le-zero}
use native.Mathlib.Numerals.{sub-one, add-one}
use native.Mathlib.Omega.{arith}
use lib.Dec.{eqb}
use lib.ListN.{length, get_or, set, length-set}
use borrow.Author.Tests.{eqb-true, eqb-false}
use Rattle.laws.specs.Cells.{cell}
use Rattle.laws.proofs.Bools.{split}
use Rattle.laws.proofs.Cells.{cell_put, cell_put_beside, cell_put_other, part_at, part_length}
use Rattle.access.specs.Limits.{max_domain, max_threads}
use Rattle.tables.specs.Tables.{youngest}
use Rattle.tables.specs.Layers.{layer_parent}
use Rattle.judge.specs.Domain.{chain}
use Rattle.denied_rows.specs.Rows.{top_of}
use Rattle.denied_rows.proofs.Kept.{top_few}
use Rattle.domain_order.specs.Order.{Walkable, up_of, up_by, OrderTo, OrdersTo, order_of, list_from, listed, OrderRight}

-- ---- one step up
pub up_none : (ls : List ℕ) (at : ℕ) → at ≡ 0 → 0 ≡ up_of ls at
unfolding up_of
up_none ls at z = rw z refl

pub up_parent : (ls : List ℕ) (at : ℕ) → (at ≡ 0 → ⊥) → {r : ℕ} → r ≡ layer_parent ls (at - 1) → r ≡ up_of ls at
unfolding up_of
up_parent ls zero d q = absurd (d refl)
up_parent ls (suc l) d q = rw (sub-one (suc l)) at q

module _ (ls : List ℕ) (y : ℕ) (W : Walkable ls y) where
  pub up_below : (at : ℕ) → at ≤ top_of ls → up_of ls at ≤ top_of ls
  unfolding up_of
  up_below zero h = omega arith
  up_below (suc l) h = W.goes l h

  pub by_below : (i : ℕ) → up_by ls y i ≤ top_of ls
  unfolding up_by
  by_below zero = W.starts
  by_below (suc i) = up_below (up_by ls y i) (by_below i)

-- ---- the cells of a row
pub order_none : (ls orders : List ℕ) (t y : ℕ) → OrderTo ls orders orders t y 0
order_none ls orders t y = record { size = refl; new = λ i h. absurd (not-suc-le-zero h); others = λ f i d h. refl }

pub order_more : (ls orders now : List ℕ) (t y n at : ℕ) → OrderTo ls orders now t y n → n < max_domain → max_domain * t + n < length now → at ≡ up_by ls y n
    → OrderTo ls orders (set now (max_domain * t + n) at) t y (n + 1)
order_more ls orders now t y n at R b h q =
    record {
      size = length-set now (max_domain * t + n) at ∙ R.size;
      new = λ i k. split (eqb i n)
          (λ w. let z = eqb-true i n w in rw z (cell_put now max_domain t n at h ∙ q))
          (λ w. let d = eqb-false i n w in cell_put_beside now max_domain t n at i d ∙ R.new i (omega arith));
      others = λ f i d k. cell_put_other now max_domain t n at f i d b k ∙ R.others f i d k;
    }

-- what goes into the first cell, and into the next one
pub by_first : (ls : List ℕ) (y : ℕ) → y ≡ up_by ls y 0
unfolding up_by
by_first ls y = refl

pub by_next : (ls : List ℕ) (y i : ℕ) {at up : ℕ} → at ≡ up_by ls y i → up ≡ up_of ls at → up ≡ up_by ls y (i + 1)
unfolding up_by
by_next ls y i p q = rw (add-one i) (q ∙ ap (up_of ls) p)

-- ---- all rows
module _ (ls ts : List ℕ) where
  pub orders_none : (orders : List ℕ) → length orders ≡ max_domain * max_threads → OrdersTo ls ts orders 0
  orders_none orders h = record { cells = h; right = λ t i k. absurd (not-suc-le-zero k) }

  pub orders_more : {orders orders' : List ℕ} {n y : ℕ} → OrdersTo ls ts orders n → y ≡ youngest ts n → OrderTo ls orders orders' n y max_domain → OrdersTo ls ts orders' (n + 1)
  orders_more {orders} {orders'} {n} {y} K q R =
      record {
        cells = R.size ∙ K.cells;
        right = λ t i h k. split (eqb t n)
            (λ w. let z = eqb-true t n w in rw (z, ← q) (R.new i k))
            (λ w. let d = eqb-false t n w in R.others t i d k ∙ K.right t i (omega arith) k);
      }

  -- ---- what a row lists
  module _ (orders : List ℕ) (K : OrdersTo ls ts orders max_threads) (t : ℕ) (b : t < max_threads) {row : List ℕ} (q : row ≡ order_of orders t) where
    order_cell : (i : ℕ) → i < max_domain → get_or row i 0 ≡ up_by ls (youngest ts t) i
    unfolding order_of
    order_cell i h = rw q (part_at orders (max_domain * t) (max_domain * t + max_domain) i (omega arith) ∙ K.right t i b h)

    pub order_right : Walkable ls (youngest ts t) → OrderRight row
    unfolding order_of
    order_right W =
        let w = K.cells in
        record {
          long = rw q (part_length orders (max_domain * t) (max_domain * t + max_domain) (omega arith) ∙ (omega arith));
          few = λ i h. let e = order_cell i h in let l = by_below ls (youngest ts t) W i in let f = top_few ls in omega arith;
        }

    lists_step : (n at : ℕ) (D : List ℕ) → D ≡ chain ls n (up_of ls at) → list_from at D ≡ chain ls (suc n) at
    unfolding chain list_from up_of
    lists_step n zero D h = refl
    lists_step n (suc l) D h = rw h refl

    order_from : (n i : ℕ) → i + n ≤ max_domain → listed row i n ≡ chain ls n (up_by ls (youngest ts t) i)
    unfolding listed up_by chain
    order_from zero i h = refl
    order_from (suc n) i h = rw (order_cell i (omega arith)) (lists_step n (up_by ls (youngest ts t) i) (listed row (suc i) n) (order_from n (suc i) (omega arith)))

    -- the thread's domain
    pub order_lists : listed row 0 max_domain ≡ chain ls max_domain (youngest ts t)
    unfolding up_by
    order_lists = order_from max_domain 0 (omega arith)
