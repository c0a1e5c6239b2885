-- Document 02, W13, "Threads end, layers come back".
use Rattle.std.specs.Prelude.{◌≡◌, Bool, true, cond, ◌&&◌, ◌||◌, ℕ, ◌+◌, ◌<◌, ltb, leb}
use Rattle.laws.specs.Tests.{any_below, elem}
use Rattle.laws.specs.Sums.{sum_below, tally}
use Rattle.laws.specs.Refusals.{first}
use Rattle.access.specs.Limits.{max_layers, max_pool, max_threads}
use Rattle.tables.specs.Tables.{Tables, thread_live}
use Rattle.tables.specs.Layers.{layer_count, layer_at, layer_in_use, ruleset_count}
use Rattle.sound.specs.Sound.{sound}
use Rattle.domain_restrict.specs.Restrict.{no_room}
use Rattle.domain_end.specs.End.{end_checks}
use Rattle.domain_end.specs.Whole.{Ended}
use Rattle.theorems.specs.Calls.{end-thread_lem, after}
use Rattle.theorems.specs.Claim.{domain_of}

-- "reached by any live thread": the layer is in the domain of one
unfoldable pub reached : Tables → ℕ → Bool
reached T l = any_below (λ t. thread_live T.threads t && elem l (domain_of T t)) max_threads

-- the rules of these layers
unfoldable pub live_rules : Tables → ℕ
live_rules T = sum_below (λ l. cond (reached T l) (layer_count T.layers l) 0) max_layers

-- what another thread has after an end: it lives, with its domain and the masks and rules of that domain's layers
pub record Unmoved (T T' : Tables) (t : ℕ) : Type 0 where
  pub lives : thread_live T'.threads t ≡ true
  pub domain : domain_of T' t ≡ domain_of T t
  pub layers : (l : ℕ) → elem l (domain_of T t) ≡ true → layer_at T'.layers T'.pool l ≡ layer_at T.layers T.pool l

-- on sound tables
pub record LayersReturned : Type 0 where
  -- a layer is in use exactly if a live thread reaches it
  pub in_use : (T : Tables) (l : ℕ) → sound T ≡ true → l < max_layers → layer_in_use T.layers l ≡ reached T l
  -- "ENOMEM is given exactly if live layers and rules leave too little room"
  pub room : (T : Tables) (r : ℕ) → sound T ≡ true
      → no_room T.system T.rulesets r ≡ (leb max_layers (tally (reached T) max_layers) || ltb max_pool (live_rules T + ruleset_count T.rulesets r))
  -- an end that is not refused leaves what `Ended` says, and sound tables of which that holds are no others
  pub whole : (T : Tables) (u : ℕ) → sound T ≡ true → first (end_checks T u) ≡ 0 → Ended T u (after T (end-thread_lem u))
  pub only : (T T' : Tables) (u : ℕ) → sound T ≡ true → first (end_checks T u) ≡ 0 → sound T' ≡ true → Ended T u T' → T' ≡ after T (end-thread_lem u)
  -- another live thread has what it had
  pub others : (T : Tables) (u t : ℕ) → sound T ≡ true → thread_live T.threads t ≡ true → (t ≡ u → ⊥) → Unmoved T (after T (end-thread_lem u)) t
