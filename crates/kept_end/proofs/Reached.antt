-- In sound tables a layer is in use exactly if some live thread reaches it. Assumes nothing.
use mathlib.Core.Path.{◌≡◌, refl, sym, ap, ◌∙◌}
use mathlib.Core.Bool.{true}
use mathlib.Core.List.{List}
use Prim.Native.Nat.{ℕ, zero, suc, ◌+◌, ◌-◌, ◌<◌}
use native.Mathlib.Numerals.{sub-one}
use native.Mathlib.Omega.{arith}
use lib.Dec.{eqb}
use borrow.Author.Tests.{eqb-true, eqb-false, eq-eqb, ne_eqb}
use Rattle.laws.specs.Sums.{tally}
use Rattle.laws.specs.Tests.{elem}
use Rattle.laws.proofs.Bools.{split, clash, or_left, or_right}
use Rattle.laws.proofs.Sums.{tally_find, bit_no}
use Rattle.access.specs.Limits.{max_layers, max_threads, max_domain}
use Rattle.tables.specs.Tables.{Tables, youngest, thread_live}
use Rattle.tables.specs.Layers.{layer_parent, layer_holders, layer_in_use}
use Rattle.judge.specs.Domain.{chain, domain}
use Rattle.sound_domains.specs.Domains.{chain_ends, holders}
use Rattle.sound_domains.proofs.Chains.{chain-none, chain_up}
use Rattle.sound.proofs.Facts.{Sound}
use Rattle.kept_domains.proofs.Threads.{live_below}
use Rattle.kept_end.proofs.Put.{domain_in_use}

-- the cell that stands n parents above a cell
above : List ℕ → ℕ → ℕ → ℕ
above ls zero y = y
above ls (suc j) zero = 0
above ls (suc j) (suc m) = above ls j (layer_parent ls m)

above-none : (ls : List ℕ) (j : ℕ) → above ls j 0 ≡ 0
unfolding above
above-none ls zero = refl
above-none ls (suc j) = refl

-- a chain that ends has no layer at its limit
above-ends : (ls : List ℕ) (n j y l : ℕ) → chain_ends ls n y ≡ true → above ls j y ≡ suc l → j < n
unfolding above
above-ends ls zero j y l h e =
    let z : y ≡ 0 = eqb-true y 0 (sym (chain-none ls 0 y refl) ∙ h) in
    absurd (let q = above-none ls j in let r : above ls j 0 ≡ suc l = rw z at e in omega arith)
above-ends ls (suc n) zero y l h e = omega arith
above-ends ls (suc n) (suc j) zero l h e = absurd (omega arith)
above-ends ls (suc n) (suc j) (suc m) l h e =
    let k : chain_ends ls n (layer_parent ls m) ≡ true = rw (sub-one (suc n), sub-one (suc m)) at (sym (chain_up ls (suc n) (suc m) (λ z. omega arith) (λ z. omega arith)) ∙ h) in
    let r = above-ends ls n j (layer_parent ls m) l k e in
    omega arith

above_member : (ls : List ℕ) (n j y l : ℕ) → j < n → above ls j y ≡ suc l → elem l (chain ls n y) ≡ true
unfolding chain elem above
above_member ls zero j y l h e = absurd (omega arith)
above_member ls (suc n) zero zero l h e = absurd (omega arith)
above_member ls (suc n) zero (suc m) l h e = or_left (eqb l m) _ (eq-eqb l m (omega arith))
above_member ls (suc n) (suc j) zero l h e = absurd (omega arith)
above_member ls (suc n) (suc j) (suc m) l h e = or_right (eqb l m) _ (above_member ls n j (layer_parent ls m) l (omega arith) e)

-- a live thread whose domain has the layer
abbrev pub Reacher : Tables → ℕ → Type 0
Reacher T l = (t : ℕ) × (thread_live T.threads t ≡ true) × (elem l (domain T.layers T.threads t) ≡ true)

module _ (T : Tables) (S : Sound T) (l : ℕ) where
  abbrev ls : List ℕ
  ls = T.layers

  abbrev ts : List ℕ
  ts = T.threads

  some_holder : (q : ℕ) → q < max_layers → layer_in_use ls q ≡ true → holders ls ts (suc q) ≡ 0 → ⊥
  unfolding layer_in_use
  some_holder q b h z =
      let w = S.hierarchy.held q b in
      let n = bit_no (eqb 0 (suc q)) (ne_eqb 0 (suc q) (λ e. omega arith)) in
      let x : layer_holders ls q ≡ 0 = omega arith in
      clash (layer_in_use ls q) h (rw x refl)

  thread-live : (t q : ℕ) → t < max_threads → youngest ts t ≡ suc q → thread_live ts t ≡ true
  thread-live t q h e = split (thread_live ts t) (λ p. p) (λ p. absurd (let z = (S.threads.free t h p).no_layer in omega arith))

  child_used : (m q : ℕ) → m < max_layers → layer_parent ls m ≡ suc q → layer_in_use ls m ≡ true
  child_used m q h e = split (layer_in_use ls m) (λ p. p) (λ p. absurd (let z = S.layers.free m h p 0 (omega arith) in omega arith))

  climb : (k j q : ℕ) → k + j ≡ max_domain → q < max_layers → layer_in_use ls q ≡ true → above ls j (suc q) ≡ suc l → Reacher T l
  unfolding holders domain above
  climb zero j q a b h e = absurd (let z = above-ends ls max_domain j (suc q) l (S.hierarchy.ends q b) e in omega arith)
  climb (suc k) j q a b h e = split (eqb (tally (λ t. eqb (youngest ts t) (suc q)) max_threads) 0)
      (λ x.
      let z : tally (λ t. eqb (youngest ts t) (suc q)) max_threads ≡ 0 = eqb-true _ 0 x in
      let f = tally_find (λ m. eqb (layer_parent ls m) (suc q)) max_layers (λ y. some_holder q b h (omega arith)) in
      let m = f.0 in
      let p : layer_parent ls m ≡ suc q = eqb-true (layer_parent ls m) (suc q) f.2 in
      climb k (suc j) m (omega arith) f.1 (child_used m q f.1 p) (ap (λ (y : ℕ). above ls j y) p ∙ e))
      (λ x.
      let f = tally_find (λ t. eqb (youngest ts t) (suc q)) max_threads (eqb-false _ 0 x) in
      let t = f.0 in
      let p : youngest ts t ≡ suc q = eqb-true (youngest ts t) (suc q) f.2 in
      (t, thread-live t q f.1 p, rw p (above_member ls max_domain j (suc q) l (above-ends ls max_domain j (suc q) l (S.hierarchy.ends q b) e) e)))

  -- document 02, W13: what is "no longer reached by any live thread" is free
  pub in_use_reached : l < max_layers → layer_in_use ls l ≡ true → Reacher T l
  unfolding above
  in_use_reached b h = climb max_domain 0 l (omega arith) b h refl

  pub reached_in_use : Reacher T l → (l < max_layers) × (layer_in_use ls l ≡ true)
  reached_in_use r = domain_in_use T 0 S r.0 (live_below ts r.0 S.lengths.threads r.1) l r.2
