-- How the walk comes to a denial. Assumes nothing.
use mathlib.Core.Path.{◌≡◌, refl, sym, ap, ◌∙◌}
use mathlib.Core.Bool.{Bool, true, false}
use mathlib.Core.List.{List, [], ◌∷◌}
use Prim.Native.Nat.{ℕ, zero, suc, ◌-◌, ◌≤◌, max}
use native.Mathlib.Numerals.{sub-one}
use native.Mathlib.Omega.{arith}
use lib.Dec.{eqb}
use Rattle.access.specs.Limits.{max_entries}
use Rattle.tables.specs.Layers.{layer_parent, layer_at}
use Rattle.judge.specs.Domain.{chain}
use Rattle.judge.specs.Read.{entries_up, largest}
use Rattle.judge.proofs.Climbs.{reads_all, reads_bound}
use Rattle.verdict.specs.declared.Question.{Question}
use Rattle.verdict.specs.declared.Question.TheVariants.{Entry, Port, Move as Moved}
use Rattle.verdict.specs.declared.Denial.{Denial}
use Rattle.verdict.specs.declared.Denial.TheVariants.{None, Denied, Crossed}
use Rattle.verdict.specs.Denial.{denied_by, read_by, kept_at, kept_set, crossed_at, denial}

pub crossed-none : (k set : ℕ) → k ≡ 0 → None ≡ crossed_at k set
unfolding crossed_at
crossed-none k set z = rw z refl

pub crossed-some : (k set : ℕ) → (k ≡ 0 → ⊥) → Crossed (k - 1) (record { 0 = set }) ≡ crossed_at k set
unfolding crossed_at
crossed-some zero set d = absurd (d refl)
crossed-some (suc l) set d = rw (sub-one (suc l)) refl

-- ---- the walk along a chain
module _ (ls : List ℕ) (a b : ℕ → ℕ) where
  walk_end : (k set n y : ℕ) → y ≡ 0 → denial a b k set (chain ls n y) ≡ crossed_at k set
  unfolding chain denial
  walk_end k set zero y h = refl
  walk_end k set (suc n) y h = rw h refl

  walk_none : (k set n y : ℕ) → n ≡ 0 → denial a b k set (chain ls n y) ≡ crossed_at k set
  unfolding chain denial
  walk_none k set n y h = rw h refl

  walk_hit : (k set n y : ℕ) → (y ≡ 0 → ⊥) → (n ≡ 0 → ⊥) → eqb (a (y - 1)) 0 ≡ false → denial a b k set (chain ls n y) ≡ Denied (y - 1) (record { 0 = a (y - 1) })
  unfolding chain denial
  walk_hit k set zero y h d t = absurd (d refl)
  walk_hit k set (suc n) zero h d t = absurd (h refl)
  walk_hit k set (suc n) (suc l) h d t = rw (sub-one (suc l), rw (sub-one (suc l)) at t) refl

  walk_up : (k set n y : ℕ) → (y ≡ 0 → ⊥) → (n ≡ 0 → ⊥) → eqb (a (y - 1)) 0 ≡ true
      → denial a b k set (chain ls n y) ≡ denial a b (kept_at k y (b (y - 1))) (kept_set k set (b (y - 1))) (chain ls (n - 1) (layer_parent ls (y - 1)))
  unfolding chain denial
  walk_up k set zero y h d t = absurd (d refl)
  walk_up k set (suc n) zero h d t = absurd (h refl)
  walk_up k set (suc n) (suc l) h d t = rw (sub-one (suc n), sub-one (suc l), rw (sub-one (suc l)) at t) refl

  -- a domain without a layer
  pub no_denial : (n y : ℕ) → y ≡ 0 → None ≡ denial a b 0 0 (chain ls n y)
  unfolding crossed_at
  no_denial n y h = sym (walk_end 0 0 n y h)

  -- a loop over the chain: `whole` is the answer
  module _ {whole : Denial} (k set n y : ℕ) (inv : whole ≡ denial a b k set (chain ls n y)) where
    pub loop_end : {r : Denial} → y ≡ 0 → r ≡ crossed_at k set → r ≡ whole
    loop_end h e = e ∙ sym (inv ∙ walk_end k set n y h)

    pub loop_none : {r : Denial} → n ≡ 0 → r ≡ crossed_at k set → r ≡ whole
    loop_none h e = e ∙ sym (inv ∙ walk_none k set n y h)

    pub loop_hit : {s : ℕ} {e : Bool} → (y ≡ 0 → ⊥) → (n ≡ 0 → ⊥) → s ≡ a (y - 1) → e ≡ eqb s 0 → e ≡ false → Denied (y - 1) (record { 0 = s }) ≡ whole
    loop_hit h d q p t = sym (inv ∙ walk_hit k set n y h d (ap (λ (x : ℕ). eqb x 0) (sym q) ∙ sym p ∙ t) ∙ rw q refl)

    pub loop_up : {s c k' set' above : ℕ} {e : Bool} → (y ≡ 0 → ⊥) → (n ≡ 0 → ⊥) → s ≡ a (y - 1) → e ≡ eqb s 0 → e ≡ true → c ≡ b (y - 1)
        → set' ≡ kept_set k set c → k' ≡ kept_at k y c → above ≡ layer_parent ls (y - 1) → whole ≡ denial a b k' set' (chain ls (n - 1) above)
    loop_up h d q p t c u v w = inv ∙ walk_up k set n y h d (ap (λ (x : ℕ). eqb x 0) (sym q) ∙ sym p ∙ t) ∙ rw (u, v, w, c) refl

-- ---- how many entries were read, along a chain: g is how many each layer reads
largest_bound : (g : ℕ → ℕ) (b : ℕ) → ((l : ℕ) → g l ≤ b) → (D : List ℕ) → largest g D ≤ b
unfolding largest
largest_bound g b h [] = omega arith
largest_bound g b h (l ∷ D) = let p = h l in let q = largest_bound g b h D in omega arith

-- no layer reads more than one that denies something
pub denied_most : (es ls ps : List ℕ) (q : Question) (l : ℕ) → (denied_by es ls ps q l ≡ 0 → ⊥) → (D : List ℕ) → largest (read_by es ls ps q) D ≤ read_by es ls ps q l
unfolding denied_by read_by
denied_most es ls ps (Entry e m) l d D =
    let r = reads_all es (layer_at ls ps l) e m.0 d in
    let b = largest_bound (read_by es ls ps (Entry e m)) (entries_up es max_entries e) (λ k. reads_bound es (layer_at ls ps k) e m.0) D in
    omega arith
denied_most es ls ps (Port p m) l d D = largest_bound (read_by es ls ps (Port p m)) 0 (λ k. omega arith) D
denied_most es ls ps (Moved m) l d D = largest_bound (read_by es ls ps (Moved m)) 0 (λ k. omega arith) D

module _ (ls : List ℕ) (g : ℕ → ℕ) where
  largest-end : (n y : ℕ) → y ≡ 0 → largest g (chain ls n y) ≡ 0
  unfolding chain largest
  largest-end zero y h = refl
  largest-end (suc n) y h = rw h refl

  pub none_read : (n y : ℕ) → y ≡ 0 → 0 ≡ largest g (chain ls n y)
  none_read n y h = sym (largest-end n y h)

  largest-none : (n y : ℕ) → n ≡ 0 → largest g (chain ls n y) ≡ 0
  unfolding chain largest
  largest-none n y h = rw h refl

  largest_up : (n y : ℕ) → (y ≡ 0 → ⊥) → (n ≡ 0 → ⊥) → largest g (chain ls n y) ≡ max (g (y - 1)) (largest g (chain ls (n - 1) (layer_parent ls (y - 1))))
  unfolding chain largest
  largest_up zero y h d = absurd (d refl)
  largest_up (suc n) zero h d = absurd (h refl)
  largest_up (suc n) (suc l) h d = rw (sub-one (suc n), sub-one (suc l)) refl

  -- a loop over the chain: `total` is the answer, r the largest so far
  module _ {total : ℕ} (r n y : ℕ) (inv : total ≡ max r (largest g (chain ls n y))) where
    pub read-end : y ≡ 0 → r ≡ total
    read-end h = let k = largest-end n y h in omega arith

    pub read_none : n ≡ 0 → r ≡ total
    read_none h = let k = largest-none n y h in omega arith

    module _ {c r' : ℕ} (h : y ≡ 0 → ⊥) (d : n ≡ 0 → ⊥) (q : c ≡ g (y - 1)) (w : r' ≡ max r c) where
      pub read_more : {above : ℕ} → above ≡ layer_parent ls (y - 1) → total ≡ max r' (largest g (chain ls (n - 1) above))
      read_more u = let k = largest_up n y h d in rw u (omega arith)

      -- no layer reads more than one that denies something
      pub read_all : ((D : List ℕ) → largest g D ≤ g (y - 1)) → r' ≡ total
      read_all most = let k = largest_up n y h d in let m = most (chain ls (n - 1) (layer_parent ls (y - 1))) in omega arith
