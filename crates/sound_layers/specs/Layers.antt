-- Document 01, "Tables are sound if", with document 02, W13: the clauses on layers and the pool.
use Rattle.std.specs.Prelude.{Bool, true, cond, ◌||◌, List, [], ◌∷◌, ℕ, ◌+◌, ◌*◌, eqb, leb}
use Rattle.laws.specs.Tests.{all_below, all_of}
use Rattle.laws.specs.Sums.{sum_below, tally}
use Rattle.laws.specs.Cells.{part, zeros}
use Rattle.access.specs.Limits.{max_layers, max_rules, max_pool}
use Rattle.tables.specs.Tables.{layer_width, rule_width}
use Rattle.tables.specs.Layers.{handles_any, layer_first, layer_count, layer_at, layer_in_use}
use Rattle.sound_rules.specs.Rules.{rules_sound, masks_known}

-- the run of a layer, by its first rule and its number of rules: "its rules, at most 64"; "rule runs lie in the used pool";
-- an empty run stores 0 as its first rule (docs/DECISIONS.md)
unfoldable pub run_placed : ℕ → ℕ → ℕ → Bool
run_placed first count pool_used = all_of (leb count max_rules ∷ leb (first + count) pool_used ∷ cond (eqb count 0) (eqb first 0) true ∷ [])

-- a layer in use: "a layer or ruleset handles something"; "bits asked for belong to the level"
unfoldable pub layer_sound : List ℕ → ℕ → ℕ → List ℕ → List ℕ → ℕ → ℕ → Bool
layer_sound es next level ls ps pool_used l =
    let L = layer_at ls ps l in
    all_of
    (run_placed (layer_first ls l) (layer_count ls l) pool_used
    ∷ handles_any L.fs L.net L.scope
    ∷ masks_known level L.fs L.net L.scope
    ∷ rules_sound es next L.fs L.net L.rules
    ∷ [])

-- "don't overlap": the runs of layers l and m
unfoldable pub runs_apart : List ℕ → ℕ → ℕ → Bool
runs_apart ls l m = leb (layer_first ls l + layer_count ls l) (layer_first ls m) || leb (layer_first ls m + layer_count ls m) (layer_first ls l)

-- layer l against every layer before it
unfoldable pub run_sound : List ℕ → ℕ → Bool
run_sound ls l = all_below (runs_apart ls l) l

-- "free space is zero": a record that nothing holds
unfoldable pub layer_free : List ℕ → ℕ → Bool
layer_free ls l = zeros (part ls (layer_width * l) (layer_width * l + layer_width))

-- "layers in use needn't come first"
unfoldable pub record_sound : List ℕ → ℕ → ℕ → List ℕ → List ℕ → ℕ → ℕ → Bool
record_sound es next level ls ps pool_used l = cond (layer_in_use ls l) (layer_sound es next level ls ps pool_used l) (layer_free ls l)

-- the cell `layers used` is the number of records in use (docs/DECISIONS.md)
unfoldable pub layers_counted : List ℕ → ℕ → Bool
layers_counted ls used = eqb used (tally (layer_in_use ls) max_layers)

-- "a used pool filled by the runs": runs in it that do not overlap, and as many rules as it has
unfoldable pub pool_filled : List ℕ → ℕ → Bool
pool_filled ls pool_used = eqb pool_used (sum_below (layer_count ls) max_layers)

-- "free space is zero": the pool
unfoldable pub pool_rest : List ℕ → ℕ → Bool
pool_rest ps pool_used = zeros (part ps (rule_width * pool_used) (rule_width * max_pool))

-- "counters are in range"
unfoldable pub layers_sound : List ℕ → ℕ → ℕ → List ℕ → List ℕ → ℕ → ℕ → Bool
layers_sound es next level ls ps used pool_used =
    all_of
    (layers_counted ls used
    ∷ leb pool_used max_pool
    ∷ all_below (record_sound es next level ls ps pool_used) max_layers
    ∷ all_below (run_sound ls) max_layers
    ∷ pool_filled ls pool_used
    ∷ pool_rest ps pool_used
    ∷ [])
