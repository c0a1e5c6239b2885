use native.Mathlib.Omega.{arith}
use Rattle.tables.specs.Layers.{layer_at}
use Rattle.judge.proofs.Climbs.{missing-is, reads_is}
use Rattle.judge.proofs.climb.layer_climb.Goals as goal

pub returns : goal.returns
unfolding layer_at
returns c =
    let a = c.args in
    let L = layer_at a.layers.now a.pool.now a.l in record { missing = missing-is L a.asked.0 c.layer_rules-rules.ensures _ a.e c.layer_fs.ensures c.handled_by.ensures c.meet.ensures c.climb-missing.ensures.missing; read = reads_is L a.asked.0 c.layer_rules-rules.ensures _ a.e c.layer_fs.ensures c.handled_by.ensures c.meet.ensures c.climb-missing.ensures.read }
