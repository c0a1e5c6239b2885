-- Where the runs of layers lie.
use Rattle.std.specs.Prelude.{◌≡◌, List, ℕ, ◌+◌, ◌≤◌, ◌<◌}
use Rattle.access.specs.Limits.{max_rules, max_pool}
use Rattle.tables.specs.Layers.{layer_first, layer_count}

-- the runs of the layers in use are short and lie in the pool, and an empty one stores 0
abbrev pub RunsPlaced : List ℕ → ℕ → Type 0
RunsPlaced ls used = (l : ℕ) → l < used → (layer_count ls l ≤ max_rules) × (layer_first ls l + layer_count ls l ≤ max_pool) × (layer_count ls l ≡ 0 → layer_first ls l ≡ 0)
