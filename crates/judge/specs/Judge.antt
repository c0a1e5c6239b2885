-- Document 01, "How a path is judged": one layer.
use Rattle.std.specs.Prelude.{cond, List, ℕ, zero, suc, eqb}
use Rattle.access.specs.Rights.{join, meet, without, REFER}
use Rattle.access.specs.Limits.{max_entries}
use Rattle.tables.specs.Tables.{parent, object, path_rule, port_rule}
use Rattle.tables.specs.Layers.{Layer}
use Rattle.judge.specs.Rules.{rights_on}

-- "the rights of its rule on that entry's object"
abbrev pub own_rights : List ℕ → List ℕ → ℕ → ℕ
own_rights es rules e = rights_on rules path_rule (object es e)

-- "a layer grants an entry the rights of its rule on that entry's object, joined with what it grants the parent; for the root the rule alone counts";
-- n is the number of climbs left
unfoldable pub grants : List ℕ → List ℕ → ℕ → ℕ → ℕ
grants es rules zero e = own_rights es rules e
grants es rules (suc n) e = let r = grants es rules n (parent es e) in cond (eqb e 0) (own_rights es rules e) (join (own_rights es rules e) r)

-- what a layer grants an entry
unfoldable pub granted : List ℕ → Layer → ℕ → ℕ
granted es L e = grants es L.rules max_entries e

-- document 02, W3: "a layer handles REFER unasked only if its file system mask is not zero"
abbrev pub handled_by : ℕ → ℕ
handled_by fs = cond (eqb fs 0) 0 (join fs REFER)

unfoldable pub handled : Layer → ℕ
handled L = handled_by L.fs

-- "A layer denies a right if it handles it and doesn't grant it"
unfoldable pub denied : List ℕ → Layer → ℕ → ℕ
denied es L e = without (handled L) (granted es L e)

-- of the rights m asked for at an entry, those that the layer denies
unfoldable pub missing : List ℕ → Layer → ℕ → ℕ → ℕ
missing es L e m = without (meet m (handled L)) (granted es L e)

-- "A domain denies a right at a port if some layer of it handles the right and has no rule for that port with it": one layer
unfoldable pub port_missing : Layer → ℕ → ℕ → ℕ
port_missing L port m = without (meet m L.net) (rights_on L.rules port_rule port)
