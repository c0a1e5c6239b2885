-- Document 02, W13, "Threads end, layers come back": the end of a thread.
use Rattle.std.specs.Prelude.{Bool, cond, not, List, [], ◌∷◌, ℕ, zero, suc, ◌+◌, ◌-◌, ◌*◌, eqb, leb, length, drop, set}
use Rattle.laws.specs.Refusals.{Check, ◌⇒◌}
use Rattle.laws.specs.Cells.{put_cell, copied, zero_row}
use Rattle.laws.specs.Sums.{tally}
use Rattle.access.specs.Errno.{ESRCH, EBUSY}
use Rattle.access.specs.Limits.{max_layers, max_threads, max_domain}
use Rattle.access.specs.declared.errno.Reply.TheVariants.{Done}
use Rattle.tables.specs.Tables.{Tables, tables, layer_width, rule_width, thread_width, layers_used, pool_used, youngest, thread_live}
use Rattle.tables.specs.Layers.{layer_parent, layer_first, layer_count, layer_holders}
use Rattle.tables.specs.Outcome.{Outcome, outcome, with_threads}
use Rattle.sound.specs.Call.{call}

-- "the only live one"
unfoldable pub last_thread : List ℕ → Bool
last_thread ts = eqb (tally (thread_live ts) max_threads) 1

-- "Ending a thread not live is ESRCH, the only live one EBUSY"
unfoldable pub end_checks : Tables → ℕ → List Check
end_checks T u = not (thread_live T.threads u) ⇒ ESRCH ∷ last_thread T.threads ⇒ EBUSY ∷ []

-- "closes up the pool": what stands after a run is written over it and what follows; past the pool's end zeros come
unfoldable pub pool_closed : List ℕ → ℕ → ℕ → List ℕ
pool_closed ps first count = copied ps (rule_width * first) (drop (rule_width * first + rule_width * count) ps) (length ps - rule_width * first)

-- a layer whose run comes after that one begins as much lower: "runs keeping their order"
unfoldable pub lower_one : List ℕ → ℕ → ℕ → ℕ → List ℕ
lower_one ls first count l = cond (leb (first + count) (layer_first ls l)) (put_cell ls layer_width l 4 (layer_first ls l - count)) ls

-- the same for all layers below n
unfoldable pub lowered : List ℕ → ℕ → ℕ → ℕ → List ℕ
lowered ls first count zero = ls
lowered ls first count (suc n) = lower_one (lowered ls first count n) first count n

-- a layer given back: its record is free, its run closed
unfoldable pub released : Tables → ℕ → Tables
released T l =
    let ls = T.layers in
    let first = layer_first ls l in
    let count = layer_count ls l in
    tables
    (set (set T.system 2 (layers_used T.system - 1)) 3 (pool_used T.system - count))
    T.entries
    T.rulesets
    (zero_row (lowered ls first count max_layers) layer_width l)
    (pool_closed T.pool first count)
    T.threads

-- one holder less
unfoldable pub unheld : Tables → ℕ → Tables
unheld T l = tables T.system T.entries T.rulesets (put_cell T.layers layer_width l 6 (layer_holders T.layers l - 1)) T.pool T.threads

-- the layer that a cell names loses a holder; with its last one it is given back, and its parent loses a holder: at most n layers
unfoldable pub put_layer : ℕ → Tables → ℕ → Tables
put_layer zero T y = T
put_layer (suc n) T zero = T
put_layer (suc n) T (suc l) =
    let r = put_layer n (released T l) (layer_parent T.layers l) in
    cond (eqb (layer_holders T.layers l) 1) r (unheld T l)

-- the thread's row is free, and its youngest layer loses a holder
unfoldable pub ended : Tables → ℕ → Tables
ended T u = put_layer max_domain (with_threads T (zero_row T.threads thread_width u)) (youngest T.threads u)

unfoldable pub end_done : Tables → ℕ → Outcome
end_done T u = outcome (Done 0) (ended T u)

unfoldable pub end_call : Tables → ℕ → Outcome
end_call T u = call T (end_checks T u) (end_done T u)
