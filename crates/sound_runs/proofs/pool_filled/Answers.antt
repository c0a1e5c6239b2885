use mathlib.Core.Path.{refl, ap, ◌∙◌}
use Prim.Native.Nat.{ℕ, zero, suc, ◌*◌, ◌≤◌, ◌<◌}
use native.Mathlib.Omega.{arith}
use lib.Dec.{eqb}
use Rattle.std.proofs.Common.{rules, tests}
use Rattle.std.specs.List.{range_with_len}
use Rattle.std.proofs.lemmas.Iterator.{YieldsList-from_range, YieldsList-from_map}
use Rattle.std.proofs.lemmas.Iterator.Consumers.{fits_by_from_yields_list, sum_by_from_yields_List}
use Rattle.laws.specs.Sums.{sum_below}
use Rattle.laws.proofs.Ranges.{sum_range}
use Rattle.access.specs.Limits.{max_layers, max_rules}
use Rattle.tables.specs.Layers.{layer_count}
use Rattle.sound_layers.specs.Layers.{pool_filled}
use Rattle.sound_runs.proofs.pool_filled.Goals as goal

-- numbers that are each at most m
sum_few : (f : ℕ → ℕ) (m n : ℕ) → ((i : ℕ) → i < n → f i ≤ m) → sum_below f n ≤ m * n
unfolding sum_below
sum_few f m zero h = omega arith
sum_few f m (suc n) h = let r = sum_few f m n (λ i k. h i (omega arith)) in let a = h n (omega arith) in omega arith

pub sum-n-requires-clause-fits : goal.sum-n-requires-clause-fits
sum-n-requires-clause-fits c =
    let f = layer_count c.args.layers.now in
    let few = sum_few f max_rules max_layers (λ l b. (c.requires.1 l b).0) in
    let all = sum_range f max_layers in
    fits_by_from_yields_list f (range_with_len 0 max_layers) c.map.result _
    (YieldsList-from_map _ f (YieldsList-from_range 0 max_layers max_layers c.map.ensures.source refl) c.map.ensures.closure (λ x b q k. search (rules, tests)))
    (omega arith)

pub returns : goal.returns
unfolding pool_filled
returns c =
    let f = layer_count c.args.layers.now in
    let n = sum_by_from_yields_List f (range_with_len 0 max_layers) c.map.result _ c.sum-n.ensures.ran
    (YieldsList-from_map _ f (YieldsList-from_range 0 max_layers max_layers c.map.ensures.source refl) c.map.ensures.closure (λ x b q k. search (rules, tests))) in
    ap (eqb c.args.taken) (n ∙ sum_range f max_layers)
