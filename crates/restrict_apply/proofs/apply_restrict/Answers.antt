use borrow.Author.Rules.{rules}
use native.Mathlib.Omega.{arith}
use Rattle.domain_restrict.proofs.Room.{free-few}
use Rattle.domain_restrict.proofs.Changes.{restricted_by}
use Rattle.restrict_apply.proofs.apply_restrict.Goals as goal

pub count_layer-requires : goal.count_layer-requires
count_layer-requires c =
    let pre = c.requires in
    (pre.0, rw c.ruleset_count-count.ensures pre.1)

pub overflow_add-l : goal.overflow_add-l
overflow_add-l c =
    let e = c.free_layer-l.ensures in
    let few = free-few c.args.layers.now in
    omega arith

pub returns : goal.returns
returns c =
    restricted_by _ _ _ c.free_layer-l.ensures c.pool_used-p.ensures c.ruleset_fs-fs.ensures c.ruleset_net-net.ensures c.ruleset_scope-scope.ensures c.ruleset_count-count.ensures
    c.ruleset_rules.ensures c.youngest_of.ensures c.copy.ensures c.put_layer.ensures c.count_layer.ensures c.row_write.ensures
