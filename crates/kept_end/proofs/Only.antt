-- The end of document 02, W13, said as a whole, leaves no cell open: sound tables that answer to it are the same. Assumes nothing.
use mathlib.Core.Path.{◌≡◌, refl, sym, ap, ◌∙◌}
use mathlib.Core.Bool.{true}
use mathlib.Core.List.{List}
use Prim.Native.Nat.{ℕ, suc, ◌+◌, ◌-◌, ◌*◌, ◌/◌, ◌%◌, ◌≤◌, ◌<◌}
use native.Mathlib.Nat.{div-lt_iff_lt-mul, div-add-mod', mod-lt, mul_comm}
use native.Mathlib.Omega.{arith}
use lib.Dec.{eqb, ltb}
use lib.ListN.{length, get_or}
use lib.Seq.{ext_get_or}
use borrow.Author.Tests.{eqb-true, eqb-false, ltb-true, ltb-false}
use Rattle.laws.specs.Cells.{cell}
use Rattle.laws.proofs.Bools.{split}
use Rattle.laws.proofs.Cells.{part_at}
use Rattle.access.specs.Limits.{max_layers}
use Rattle.tables.specs.Tables.{Tables, tables, layer_width, rule_width, level, counter, layers_used, pool_used, youngest}
use Rattle.tables.specs.Layers.{Layer, layer_parent, layer_first, layer_count, layer_holders, layer_at}
use Rattle.sound_domains.proofs.Holders.{holders-same}
use Rattle.sound.proofs.Facts.{Sound}
use Rattle.domain_end.specs.Whole.{reached_but, Ended}
use Rattle.kept_end.proofs.Filled.{inside-at, place-filled}

-- two tables of n rows of w cells with the same cells
rows_ext : (xs ys : List ℕ) (w n : ℕ) → 0 < w → length xs ≡ w * n → length ys ≡ w * n → ((l k : ℕ) → l < n → k < w → cell xs w l k ≡ cell ys w l k) → xs ≡ ys
rows_ext xs ys w n p a b f = ext_get_or 0 xs ys (a ∙ sym b) (λ i h.
    let d : i / w < n = (div-lt_iff_lt-mul p).1 (let m = mul_comm w n in omega arith) in
    let m : i % w < w = mod-lt i p in
    let e : w * (i / w) + i % w ≡ i = (let s = div-add-mod' i w in let c = mul_comm w (i / w) in omega arith) in
    sym (ap (λ (j : ℕ). get_or xs j 0) e) ∙ f (i / w) (i % w) d m ∙ ap (λ (j : ℕ). get_or ys j 0) e)

same_tables : (sys sys' es es' rs rs' ls ls' ps ps' ts ts' : List ℕ) → sys ≡ sys' → es ≡ es' → rs ≡ rs' → ls ≡ ls' → ps ≡ ps' → ts ≡ ts' → tables sys es rs ls ps ts ≡ tables sys' es' rs' ls' ps' ts'
same_tables sys sys' es es' rs rs' ls ls' ps ps' ts ts' a b c d e f = rw (a, b, c, d, e, f) refl

-- a rule's cell, by the layer that it is a rule of
rule-cell : (ls ps : List ℕ) (l j : ℕ) → j < rule_width * layer_count ls l → get_or (layer_at ls ps l).rules j 0 ≡ get_or ps (rule_width * layer_first ls l + j) 0
unfolding layer_at
rule-cell ls ps l j h = part_at ps (rule_width * layer_first ls l) (rule_width * layer_first ls l + rule_width * layer_count ls l) j (omega arith)

module _ (T : Tables) (u : ℕ) (A B : Tables) (a : Ended T u A) (b : Ended T u B) (SA : Sound A) (SB : Sound B) where
  abbrev la : List ℕ
  la = A.layers

  abbrev lb : List ℕ
  lb = B.layers

  -- of each record: it stays in both or is free in both
  same-parent : (l : ℕ) → l < max_layers → layer_parent la l ≡ layer_parent lb l
  same-parent l h = split (reached_but T u l) (λ q. a.parent l h q ∙ sym (b.parent l h q)) (λ q. a.free l h q 0 (omega arith) ∙ sym (b.free l h q 0 (omega arith)))

  same-layer : (l : ℕ) → l < max_layers → reached_but T u l ≡ true → layer_at la A.pool l ≡ layer_at lb B.pool l
  same-layer l h q = a.layer l h q ∙ sym (b.layer l h q)

  same_first : (l : ℕ) → l < max_layers → layer_first la l ≡ layer_first lb l
  same_first l h = split (reached_but T u l) (λ q. a.place l h q ∙ sym (b.place l h q)) (λ q. a.free l h q 4 (omega arith) ∙ sym (b.free l h q 4 (omega arith)))

  same_count : (l : ℕ) → l < max_layers → layer_count la l ≡ layer_count lb l
  same_count l h = split (reached_but T u l) (λ q. a.count l h q ∙ sym (b.count l h q)) (λ q. a.free l h q 5 (omega arith) ∙ sym (b.free l h q 5 (omega arith)))

  same-threads : A.threads ≡ B.threads
  same-threads = a.threads ∙ sym b.threads

  same-held : (l : ℕ) → l < max_layers → layer_holders la l ≡ layer_holders lb l
  same-held l h = a.held l h ∙ holders-same lb la B.threads A.threads (suc l) (λ t k. ap (λ (x : List ℕ). youngest x t) same-threads) (λ m k. same-parent m k) ∙ sym (b.held l h)

  same-masks : (l : ℕ) → l < max_layers → reached_but T u l ≡ true
      → (cell la layer_width l 1 ≡ cell lb layer_width l 1) × (cell la layer_width l 2 ≡ cell lb layer_width l 2) × (cell la layer_width l 3 ≡ cell lb layer_width l 3)
  unfolding layer_at
  same-masks l h q = let e = same-layer l h q in (ap (λ (L : Layer). L.fs) e, ap (λ (L : Layer). L.net) e, ap (λ (L : Layer). L.scope) e)

  same-cell : (l k : ℕ) → l < max_layers → k < layer_width → cell la layer_width l k ≡ cell lb layer_width l k
  same-cell l k h c = split (reached_but T u l)
      (λ q.
      let m = same-masks l h q in
      split (eqb k 0) (λ z. rw (eqb-true k 0 z) (same-parent l h))
      (λ z0. split (eqb k 1) (λ z. rw (eqb-true k 1 z) m.0)
      (λ z1. split (eqb k 2) (λ z. rw (eqb-true k 2 z) m.1)
      (λ z2. split (eqb k 3) (λ z. rw (eqb-true k 3 z) m.2)
      (λ z3. split (eqb k 4) (λ z. rw (eqb-true k 4 z) (same_first l h))
      (λ z4. split (eqb k 5) (λ z. rw (eqb-true k 5 z) (same_count l h))
      (λ z5.
      let e : k ≡ 6 = (let d0 = eqb-false k 0 z0 in let d1 = eqb-false k 1 z1 in let d2 = eqb-false k 2 z2 in let d3 = eqb-false k 3 z3 in let d4 = eqb-false k 4 z4 in let d5 = eqb-false k 5 z5 in omega arith) in
      rw e (same-held l h))))))))
      (λ q. a.free l h q k c ∙ sym (b.free l h q k c))

  same-layers : la ≡ lb
  same-layers = rows_ext la lb layer_width max_layers (omega arith) SA.lengths.layers SB.lengths.layers same-cell

  same-system : A.system ≡ B.system
  same-system = ext_get_or 0 A.system B.system (SA.lengths.system ∙ sym SB.lengths.system) (λ i h.
      split (eqb i 0) (λ z. rw (eqb-true i 0 z) (a.level-same_lem ∙ sym b.level-same_lem))
      (λ z0. split (eqb i 1) (λ z. rw (eqb-true i 1 z) (a.counter-same_lem ∙ sym b.counter-same_lem))
      (λ z1. split (eqb i 2) (λ z. rw (eqb-true i 2 z) (a.layers-used_lem ∙ sym b.layers-used_lem))
      (λ z2.
      let e : i ≡ 3 = (let w = SA.lengths.system in let d0 = eqb-false i 0 z0 in let d1 = eqb-false i 1 z1 in let d2 = eqb-false i 2 z2 in omega arith) in
      rw e (a.pool-used_lem ∙ sym b.pool-used_lem)))))

  -- a rule in the used pool is one of a layer that stays
  same-rule : (l i : ℕ) → l < max_layers → rule_width * layer_first la l ≤ i → i < rule_width * layer_first la l + rule_width * layer_count la l → get_or A.pool i 0 ≡ get_or B.pool i 0
  same-rule l i h x y =
      let f = same_first l h in
      let c = same_count l h in
      let j = i - rule_width * layer_first la l in
      let e : rule_width * layer_first la l + j ≡ i = omega arith in
      let g : rule_width * layer_first lb l + j ≡ i = omega arith in
      split (reached_but T u l)
      (λ q.
      sym (ap (λ (n : ℕ). get_or A.pool n 0) e) ∙ sym (rule-cell la A.pool l j (omega arith)) ∙ ap (λ (L : Layer). get_or L.rules j 0) (same-layer l h q)
      ∙ rule-cell lb B.pool l j (omega arith) ∙ ap (λ (n : ℕ). get_or B.pool n 0) g)
      (λ q. absurd (let z = a.free l h q 5 (omega arith) in omega arith))

  same-pool : A.pool ≡ B.pool
  same-pool = ext_get_or 0 A.pool B.pool (SA.lengths.pool ∙ sym SB.lengths.pool) (λ i h.
      split (ltb i (rule_width * pool_used A.system))
      (λ q.
      let x = ltb-true i (rule_width * pool_used A.system) q in
      let p : i / rule_width < pool_used A.system = (div-lt_iff_lt-mul (omega arith)).1 (omega arith) in
      let r = place-filled A.entries (counter A.system) (level A.system) la A.pool (layers_used A.system) (pool_used A.system) SA.layers (i / rule_width) p in
      let s = inside-at (layer_first la r.0) (layer_count la r.0) (i / rule_width) r.2 in
      same-rule r.0 i r.1 (omega arith) (omega arith))
      (λ q.
      let x = ltb-false i (rule_width * pool_used A.system) q in
      SA.layers.pool-rest i x (omega arith) ∙ sym (SB.layers.pool-rest i (omega arith) (omega arith))))

  pub ended-only : A ≡ B
  ended-only =
      same_tables A.system B.system A.entries B.entries A.rulesets B.rulesets la lb A.pool B.pool A.threads B.threads
      same-system (a.entries ∙ sym b.entries) (a.rulesets ∙ sym b.rulesets) same-layers same-pool same-threads
