-- How many layers a chain has, counted from below: a climb is over where it comes to a layer whose depth is known. Assumes nothing.
use mathlib.Core.Path.{◌≡◌, refl, sym, ap, ◌∙◌}
use mathlib.Core.List.{List}
use Prim.Native.Nat.{ℕ, zero, suc, ◌+◌, ◌-◌, ◌*◌, ◌≤◌, ◌<◌}
use native.Mathlib.Nat.{add-zero}
use native.Mathlib.Numerals.{sub-one}
use native.Mathlib.Omega.{arith}
use lib.Dec.{eqb, leb}
use lib.ListN.{length, get_or, set, length-set}
use lib.Seq.{get_or-set_same, get_or-set_other}
use borrow.Author.Tests.{eqb-true, eqb-false, eq-eqb, ne_eqb, leb-true, leb-false, le-leb, lt-leb}
use Rattle.laws.proofs.Bools.{split}
use Rattle.laws.proofs.Cells.{past}
use Rattle.access.specs.Limits.{max_layers, max_domain}
use Rattle.tables.specs.Tables.{layer_width}
use Rattle.tables.specs.Layers.{layer_parent}
use Rattle.sound_domains.specs.Domains.{chain_ends}
use Rattle.sound_domains.specs.Counting.{depth, Depths}
use Rattle.sound_domains.proofs.Chains.{chain-end, chain-none, chain_up}

module _ (ls : List ℕ) where
  pub depth-end : (n y : ℕ) → y ≡ 0 → depth ls n y ≡ 0
  unfolding depth
  depth-end zero y h = simp (eq-eqb y 0 h)
  depth-end (suc n) y h = simp (eq-eqb y 0 h)

  pub depth-none : (n y : ℕ) → n ≡ 0 → (y ≡ 0 → ⊥) → depth ls n y ≡ 1
  unfolding depth
  depth-none n y z h = rw z (simp (ne_eqb y 0 h))

  depth_suc : (n y : ℕ) → (y ≡ 0 → ⊥) → depth ls (suc n) y ≡ suc (depth ls n (layer_parent ls (y - 1)))
  unfolding depth
  depth_suc n y h = simp (ne_eqb y 0 h)

  -- a step, to the cell that the code reads
  pub depth-cell : (n y : ℕ) → (y ≡ 0 → ⊥) → (n ≡ 0 → ⊥) → depth ls n y ≡ suc (depth ls (n - 1) (get_or ls (layer_width * (y - 1)) 0))
  depth-cell zero y h k = absurd (k refl)
  depth-cell (suc n) y h k =
      depth_suc n y h
      ∙ ap (λ (i : ℕ). suc (depth ls n (get_or ls i 0))) (add-zero (layer_width * (y - 1)))
      ∙ ap (λ (m : ℕ). suc (depth ls m (get_or ls (layer_width * (y - 1)) 0))) (sym (sub-one (suc n)))

  -- a layer past the table has no parent
  pub depth-past : (n y : ℕ) → length ls ≡ layer_width * max_layers → max_layers < y → depth ls n y ≡ 1
  depth-past zero y w h = depth-none zero y refl (λ z. omega arith)
  depth-past (suc n) y w h =
      depth_suc n y (λ z. omega arith) ∙ ap suc (depth-end n (layer_parent ls (y - 1)) (sym (past ls (layer_width * (y - 1) + 0) (omega arith))))

  depth-some : (n y : ℕ) → (y ≡ 0 → ⊥) → 1 ≤ depth ls n y
  depth-some zero y h = let e = depth-none zero y refl h in omega arith
  depth-some (suc n) y h = let e = depth_suc n y h in omega arith

  -- fewer steps count the same layers if these are not more than the steps
  pub depth-less : (n m y : ℕ) → n ≤ m → depth ls m y ≤ n → depth ls n y ≡ depth ls m y
  depth-less zero m y k h = split (eqb y 0)
      (λ q. let e = eqb-true y 0 q in depth-end zero y e ∙ sym (depth-end m y e))
      (λ q. let g = depth-some m y (eqb-false y 0 q) in absurd (omega arith))
  depth-less (suc n) zero y k h = absurd (omega arith)
  depth-less (suc n) (suc m) y k h = split (eqb y 0)
      (λ q. let e = eqb-true y 0 q in depth-end (suc n) y e ∙ sym (depth-end (suc m) y e))
      (λ q.
      let d = eqb-false y 0 q in
      let e = depth_suc m y d in
      depth_suc n y d ∙ ap suc (depth-less n m (layer_parent ls (y - 1)) (omega arith) (omega arith)) ∙ sym e)

  -- and one more than the steps if they are
  pub depth_over : (n m y : ℕ) → n ≤ m → n < depth ls m y → depth ls n y ≡ suc n
  depth_over zero m y k h = depth-none zero y refl (λ z. let e = depth-end m y z in omega arith)
  depth_over (suc n) zero y k h = absurd (omega arith)
  depth_over (suc n) (suc m) y k h =
      let d : y ≡ 0 → ⊥ = λ z. let e = depth-end (suc m) y z in omega arith in
      let e = depth_suc m y d in
      depth_suc n y d ∙ ap suc (depth_over n m (layer_parent ls (y - 1)) (omega arith) (omega arith))

  -- the chain ends within n layers exactly if there are at most n
  pub depth-ends : (n y : ℕ) → chain_ends ls n y ≡ leb (depth ls n y) n
  depth-ends zero y = chain-none ls zero y refl ∙ split (eqb y 0)
      (λ q. let d = depth-end zero y (eqb-true y 0 q) in q ∙ sym (le-leb (depth ls zero y) 0 (omega arith)))
      (λ q. let d = depth-none zero y refl (eqb-false y 0 q) in q ∙ sym (lt-leb (depth ls zero y) 0 (omega arith)))
  depth-ends (suc n) y = split (eqb y 0)
      (λ q. let e = eqb-true y 0 q in let d = depth-end (suc n) y e in chain-end ls (suc n) y e ∙ sym (le-leb (depth ls (suc n) y) (suc n) (omega arith)))
      (λ q.
      let d = eqb-false y 0 q in
      let e = depth_suc n y d in
      let p = layer_parent ls (y - 1) in
      chain_up ls (suc n) y d (λ z. omega arith)
      ∙ ap (λ (m : ℕ). chain_ends ls m p) (sub-one (suc n))
      ∙ depth-ends n p
      ∙ split (leb (depth ls n p) n)
      (λ l. let g = leb-true (depth ls n p) n l in l ∙ sym (le-leb (depth ls (suc n) y) (suc n) (omega arith)))
      (λ l. let g = leb-false (depth ls n p) n l in l ∙ sym (lt-leb (depth ls (suc n) y) (suc n) (omega arith))))

  -- ---- the depths of the layers, one after another
  pub depths-none : (ds : List ℕ) → length ds ≡ max_layers → Depths ls ds 0
  depths-none ds w = (w, λ m h. absurd (omega arith))

  pub depths_more : (ds : List ℕ) (l : ℕ) → Depths ls ds l → l < max_layers → {d : ℕ} → d ≤ max_domain → d ≡ depth ls max_domain (l + 1) → Depths ls (set ds l d) (l + 1)
  depths_more ds l D b {d} h e = (
    length-set ds l d ∙ D.0,
    λ m k. split (eqb m l)
        (λ q.
        let i = eqb-true m l q in
        let g : get_or (set ds l d) m 0 ≡ d = rw i (get_or-set_same ds l d 0 (let w = D.0 in omega arith)) in
        (omega arith, g ∙ e ∙ ap (λ (j : ℕ). depth ls max_domain (j + 1)) (sym i)))
        (λ q.
        let n = eqb-false m l q in
        let g = get_or-set_other ds l m d 0 n in
        let o = D.1 m (omega arith) in
        (let a = o.0 in omega arith, g ∙ o.1)),
  )
