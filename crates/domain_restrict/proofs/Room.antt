-- Room for a new layer: how code comes to the test, and what a passed test tells. Assumes nothing.
use mathlib.Core.Path.{◌≡◌, sym, ◌∙◌}
use mathlib.Core.Bool.{true, false, not}
use mathlib.Core.List.{List}
use Prim.Native.Nat.{ℕ, ◌+◌, ◌-◌, ◌≤◌, ◌<◌}
use native.Mathlib.Omega.{arith}
use lib.Dec.{ltb, leb}
use borrow.Author.Tests.{ltb-true, ltb-false, lt-ltb, leb-false, le-leb, lt-leb}
use Rattle.laws.specs.Refusals.{first}
use Rattle.laws.proofs.Refusals.{passed}
use Rattle.laws.proofs.Tests.{first_bound}
use Rattle.laws.proofs.Bools.{agree, or_l, or_r, or_left, or_right}
use Rattle.access.specs.Limits.{max_layers, max_pool}
use Rattle.tables.specs.Tables.{Tables, layers_used, pool_used}
use Rattle.tables.specs.Layers.{ruleset_count, layer_in_use}
use Rattle.domain_restrict.specs.Restrict.{free_layer, no_room, restrict_form, restrict_room, restrict_checks}

module _ (sys rs : List ℕ) (r : ℕ) where
  abbrev few : ℕ
  few = pool_used sys + ruleset_count rs r

  pub no_layer : {l : ℕ} → l ≡ layers_used sys → max_layers ≤ l → true ≡ no_room sys rs r
  unfolding no_room
  no_layer e h = sym (or_left (leb max_layers (layers_used sys)) _ (le-leb max_layers (layers_used sys) (rw e at h)))

  pub no_pool : {p : ℕ} → p ≡ pool_used sys → max_pool < p → true ≡ no_room sys rs r
  unfolding no_room
  no_pool e h = sym (or_right (leb max_layers (layers_used sys)) _ (lt-ltb max_pool few (omega arith)))

  pub pool-left : {l p n : ℕ} → l ≡ layers_used sys → l < max_layers → p ≡ pool_used sys → p ≤ max_pool → n ≡ ruleset_count rs r → ltb (max_pool - p) n ≡ no_room sys rs r
  unfolding no_room
  pool-left {l} {p} {n} e h f k g =
      rw (lt-leb max_layers (layers_used sys) (rw e at h))
      (agree (ltb (max_pool - p) n) (ltb max_pool few)
      (λ q. let m = ltb-true (max_pool - p) n q in lt-ltb max_pool few (omega arith))
      (λ q. let m = ltb-true max_pool few q in lt-ltb (max_pool - p) n (omega arith)))

  room : no_room sys rs r ≡ false → (layers_used sys < max_layers) × (pool_used sys + ruleset_count rs r ≤ max_pool)
  unfolding no_room
  room h =
      let a : layers_used sys < max_layers = leb-false max_layers (layers_used sys) (or_l (leb max_layers (layers_used sys)) (ltb max_pool few) h) in
      (a, ltb-false max_pool few (or_r (leb max_layers (layers_used sys)) (ltb max_pool few) h))

-- a number of a layer record, or of how many there are
pub free-few : (ls : List ℕ) → free_layer ls ≤ max_layers
unfolding free_layer
free-few ls = first_bound (λ l. not (layer_in_use ls l)) max_layers

-- there is room where nothing refuses
pub roomy : (T : Tables) (t r flags : ℕ) {e : ℕ} → e ≡ first (restrict_checks T t r flags) → e ≡ 0 → (layers_used T.system < max_layers) × (pool_used T.system + ruleset_count T.rulesets r ≤ max_pool)
unfolding restrict_checks restrict_form restrict_room
roomy T t r flags q z = room T.system T.rulesets r (passed (restrict_checks T t r flags) (sym q ∙ z)).1.1.1.1.1.1.0
