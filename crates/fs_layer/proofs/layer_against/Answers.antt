use Rattle.tables.specs.Layers.{layer_at}
use Rattle.fs.specs.Against.{compared}
use Rattle.fs.proofs.Against.{missing_agrees, needs_by, crossed-is}
use Rattle.fs_layer.proofs.layer_against.Goals as goal

pub returns : goal.returns
returns c =
    let w = c.compared_rights-wide.ensures in
    let a = c.args in
    let es = a.entries.now in
    let L = layer_at a.layers.now a.pool.now a.l in
    let m = a.m in
    let a1 = missing_agrees es L m.source m.leave.0 (compared m) w c.join.ensures c.layer_climb.ensures.missing in
    let a2 = missing_agrees es L m.target m.enter.0 (compared m) w c.join-2.ensures c.layer_climb-2.ensures.missing in
    record { needs = needs_by es L m a1 a2 c.held_against.ensures.needs; crossed = crossed-is es L m a1 a2 c.held_against.ensures.crossed }
