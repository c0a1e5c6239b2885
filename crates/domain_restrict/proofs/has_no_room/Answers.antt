use native.Mathlib.Omega.{arith}
use Rattle.domain_restrict.proofs.Room.{no_layer, no_pool, pool-left}
use Rattle.domain_restrict.proofs.has_no_room.Goals as goal

pub returns-then-layers_used : goal.returns-then-layers_used
returns-then-layers_used c =
    no_layer _ _ _ c.layers_used.ensures c.if-layers_used.true

pub returns-then-used : goal.returns-then-used
returns-then-used c =
    no_pool _ _ _ c.pool_used-used.ensures c.if-used.true

pub returns : goal.returns
returns c =
    pool-left _ _ _ c.layers_used.ensures c.if-layers_used.false c.pool_used-used.ensures c.if-used.false c.ruleset_count-count.ensures
