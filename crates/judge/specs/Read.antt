-- Document 02, W2: how many entries' rules an access reads.
use Rattle.std.specs.Prelude.{cond, List, [], ◌∷◌, ℕ, zero, suc, max, eqb}
use Rattle.laws.specs.Tests.{first_below}
use Rattle.access.specs.Limits.{max_entries}
use Rattle.access.specs.Rights.{meet, without}
use Rattle.tables.specs.Tables.{parent}
use Rattle.tables.specs.Layers.{Layer, layer_at}
use Rattle.judge.specs.Judge.{own_rights, handled}

-- of the rights m, those that the rules of the first k entries from e up do not grant
unfoldable pub left_after : List ℕ → List ℕ → ℕ → ℕ → ℕ → ℕ
left_after es rules zero e m = m
left_after es rules (suc k) e m = left_after es rules k (parent es e) (without m (own_rights es rules e))

-- the number of entries from e up to and with the root; n is the number of climbs left
unfoldable pub entries_up : List ℕ → ℕ → ℕ → ℕ
entries_up es zero e = 1
entries_up es (suc n) e = let r = entries_up es n (parent es e) in cond (eqb e 0) 1 (suc r)

-- "the fewest, from the checked entry up, that leave none missing (perhaps 0), else all": of one layer
unfoldable pub layer_reads : List ℕ → Layer → ℕ → ℕ → ℕ
layer_reads es L e m = first_below (λ k. eqb (left_after es L.rules k e (meet m (handled L))) 0) (entries_up es max_entries e)

-- the largest over a list of layers
unfoldable pub largest : (ℕ → ℕ) → List ℕ → ℕ
largest f [] = 0
largest f (l ∷ D) = let r = largest f D in max (f l) r

-- "once no layer misses a requested right": over the layers D of a domain
unfoldable pub entries_read : List ℕ → List ℕ → List ℕ → List ℕ → ℕ → ℕ → ℕ
entries_read es ls ps D e m = largest (λ l. layer_reads es (layer_at ls ps l) e m) D

-- the same entry by entry: one more at each, until none is missing, or at the root
unfoldable pub read_up : List ℕ → List ℕ → ℕ → ℕ → ℕ → ℕ
read_up es rules zero e m = cond (eqb m 0) 0 1
read_up es rules (suc n) e m = let r = read_up es rules n (parent es e) (without m (own_rights es rules e)) in cond (eqb m 0) 0 (cond (eqb e 0) 1 (suc r))
