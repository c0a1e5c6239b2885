-- What right lengths say of each table, and the way back. Assumes nothing.
use mathlib.Core.Path.{◌≡◌}
use mathlib.Core.Bool.{true}
use Prim.Native.Nat.{◌*◌}
use lib.ListN.{length}
use borrow.Author.Tests.{eqb-true, eq-eqb}
use Rattle.laws.proofs.Tests.{all_of-at, all_of_of, met, ◌also◌}
use Rattle.access.specs.Limits.{max_entries, max_rulesets, max_layers, max_pool, max_threads}
use Rattle.tables.specs.Tables.{Tables, lengths_right, system_width, entry_width, ruleset_width, layer_width, rule_width, thread_width}

pub record Lengths (T : Tables) : Type 0 where
  pub system : length T.system ≡ system_width
  pub entries : length T.entries ≡ entry_width * max_entries
  pub rulesets : length T.rulesets ≡ ruleset_width * max_rulesets
  pub layers : length T.layers ≡ layer_width * max_layers
  pub pool : length T.pool ≡ rule_width * max_pool
  pub threads : length T.threads ≡ thread_width * max_threads

pub lengths : (T : Tables) → lengths_right T ≡ true → Lengths T
unfolding lengths_right
lengths T h = record {
  system = eqb-true (length T.system) _ (all_of-at _ 0 h);
  entries = eqb-true (length T.entries) _ (all_of-at _ 1 h);
  rulesets = eqb-true (length T.rulesets) _ (all_of-at _ 2 h);
  layers = eqb-true (length T.layers) _ (all_of-at _ 3 h);
  pool = eqb-true (length T.pool) _ (all_of-at _ 4 h);
  threads = eqb-true (length T.threads) _ (all_of-at _ 5 h);
}

pub lengths_right_lem : (T : Tables) → Lengths T → lengths_right T ≡ true
unfolding lengths_right
lengths_right_lem T w =
    all_of_of
    (eq-eqb (length T.system) _ w.system
    also eq-eqb (length T.entries) _ w.entries
    also eq-eqb (length T.rulesets) _ w.rulesets
    also eq-eqb (length T.layers) _ w.layers
    also eq-eqb (length T.pool) _ w.pool
    also eq-eqb (length T.threads) _ w.threads
    also met)
