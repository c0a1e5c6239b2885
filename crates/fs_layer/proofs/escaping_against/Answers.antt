use Rattle.fs.proofs.Against.{escaping_by}
use Rattle.fs_layer.proofs.escaping_against.Goals as goal

pub returns : goal.returns
returns c =
    let a = c.args in
    escaping_by a.m a.d1.0 a.d2.0 _ _ c.meet.ensures c.without.ensures c.left_by_rule-there.ensures c.meet-2.ensures c.without-2.ensures c.left_by_rule-back.ensures c.join.ensures
