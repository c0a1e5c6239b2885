use native.Mathlib.Omega.{arith}
use borrow.Author.Rules.{rules}
use Rattle.names.specs.Names.{row_at}
use Rattle.sound_names_walk.proofs.Walks.{node_in}
use Rattle.sound_names_chains.proofs.Index.{nodes_more}
use Rattle.sound_names_chains.proofs.Unique.{bucket_is, added_is}
use Rattle.sound_names_chains.proofs.add_name.Goals as goal

pub overflow_cast-head : goal.overflow_cast-head
unfolding row_at
overflow_cast-head c =
    omega (arith, c.slice_known-3-1.given c.bucket_of-b.result)

pub walk-walked-requires : goal.walk-walked-requires
unfolding row_at
walk-walked-requires c =
    let u = c.requires.1.1.1.1 in
    (c.requires.0, ((search rules, node_in _ c.args.heads.now (omega arith) u.firsts _), (u.long, nodes_more _ c.args.links.now (omega arith) u.nexts)))

pub returns : goal.returns
unfolding row_at
returns c =
    let i = c.parent_of-parent.ensures in
    added_is _ _ c.requires.0 c.requires.1.0.0 c.requires.1.0.1 c.requires.1.1.1.0 c.requires.1.1.1.1 (bucket_is _ c.args.names.now c.args.e i c.fold.ensures c.bucket_of-b.ensures.0) c.bucket_of-b.ensures.1 _ c.requires.1.1.0 i c.walk-walked.ensures c.tested_by.ensures
