-- Document 02, W13: what the end of a thread leaves, said as a whole.
use Rattle.std.specs.Prelude.{◌≡◌, Bool, true, false, cond, not, ◌&&◌, ℕ, suc, ◌<◌, eqb, ltb}
use Rattle.laws.specs.Tests.{any_below, elem}
use Rattle.laws.specs.Sums.{sum_below, tally}
use Rattle.laws.specs.Cells.{cell, zero_row}
use Rattle.access.specs.Limits.{max_layers, max_threads}
use Rattle.tables.specs.Tables.{Tables, layer_width, thread_width, level, counter, layers_used, pool_used, thread_live}
use Rattle.tables.specs.Layers.{layer_parent, layer_first, layer_count, layer_holders, layer_at, layer_in_use}
use Rattle.judge.specs.Domain.{domain}
use Rattle.sound_domains.specs.Domains.{holders}

-- "reached by any live thread", now that u is none: layer l is in the domain of a live thread other than u
unfoldable pub reached_but : Tables → ℕ → ℕ → Bool
reached_but T u l = any_below (λ t. (thread_live T.threads t && not (eqb t u)) && elem l (domain T.layers T.threads t)) max_threads

-- the rules of those layers that stay and whose runs come before that of layer l
unfoldable pub rules_before : Tables → ℕ → ℕ → ℕ
rules_before T u l = sum_below (λ m. cond (reached_but T u m && ltb (layer_first T.layers m) (layer_first T.layers l)) (layer_count T.layers m) 0) max_layers

-- "closes up the pool, runs keeping their order": where the run of layer l now begins; an empty run stores 0
unfoldable pub place_of : Tables → ℕ → ℕ → ℕ
place_of T u l = cond (eqb (layer_count T.layers l) 0) 0 (rules_before T u l)

pub record Ended (T : Tables) (u : ℕ) (T' : Tables) : Type 0 where
  -- the tree, the rulesets, the level and the next object number are left alone
  pub entries : T'.entries ≡ T.entries
  pub rulesets : T'.rulesets ≡ T.rulesets
  pub level-same_lem : level T'.system ≡ level T.system
  pub counter-same_lem : counter T'.system ≡ counter T.system
  -- the thread's number is free
  pub threads : T'.threads ≡ zero_row T.threads thread_width u
  -- layer records "no longer reached by any live thread are used again"
  pub in_use : (l : ℕ) → l < max_layers → layer_in_use T'.layers l ≡ reached_but T u l
  pub free : (l : ℕ) → l < max_layers → reached_but T u l ≡ false → (k : ℕ) → k < layer_width → cell T'.layers layer_width l k ≡ 0
  -- a layer that stays: its parent, its masks and rules, and where its run lies
  pub parent : (l : ℕ) → l < max_layers → reached_but T u l ≡ true → layer_parent T'.layers l ≡ layer_parent T.layers l
  pub layer : (l : ℕ) → l < max_layers → reached_but T u l ≡ true → layer_at T'.layers T'.pool l ≡ layer_at T.layers T.pool l
  pub count : (l : ℕ) → l < max_layers → reached_but T u l ≡ true → layer_count T'.layers l ≡ layer_count T.layers l
  pub place : (l : ℕ) → l < max_layers → reached_but T u l ≡ true → layer_first T'.layers l ≡ place_of T u l
  -- "true counts"
  pub held : (l : ℕ) → l < max_layers → layer_holders T'.layers l ≡ holders T'.layers T'.threads (suc l)
  -- the layers and the pool rules in use
  pub layers-used_lem : layers_used T'.system ≡ tally (reached_but T u) max_layers
  pub pool-used_lem : pool_used T'.system ≡ sum_below (λ l. cond (reached_but T u l) (layer_count T.layers l) 0) max_layers
