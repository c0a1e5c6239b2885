use Rattle.tables.specs.Layers.{layer_at}
use Rattle.judge.proofs.Climbs.{port-missing-is}
use Rattle.judge.proofs.climb.layer_port_missing.Goals as goal

pub returns : goal.returns
unfolding layer_at
returns c =
    let a = c.args in
    port-missing-is (layer_at a.layers.now a.pool.now a.l) a.asked.0 c.layer_rules-rules.ensures a.port
    c.layer_net-net.ensures
    c.meet.ensures
    c.rights_on.ensures
    c.without.ensures
