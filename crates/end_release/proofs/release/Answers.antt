use borrow.Author.Rules.{rules}
use Rattle.domain_end.proofs.Loops.{released_by}
use Rattle.end_release.proofs.release.Goals as goal

pub returns : goal.returns
returns c =
    released_by _ _ c.layer_first-first.ensures c.layer_count-count.ensures c.layers_used-used.ensures c.pool_used-taken.ensures c.minus.ensures c.write.ensures
    c.minus-2.ensures c.write-2.ensures c.lower_firsts.ensures c.zero_row.ensures c.close_pool.ensures
