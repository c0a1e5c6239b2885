use mathlib.Core.Path.{ap, ◌∙◌}
use native.Mathlib.Omega.{arith}
use lib.ListN.{length}
use borrow.Author.Rules.{rules}
use Rattle.names.proofs.Facts.{names}
use Rattle.sound_names_walk.specs.Fold.{bucket_of}
use Rattle.sound_names_walk.proofs.Walks.{node_in}
use Rattle.name_index.proofs.Row.{own-length}
use Rattle.name_index.proofs.Bearers.{too_long, missing-is, found-is}
use Rattle.name_index.proofs.bearer_on_chain.Goals as goal

pub returns-then-name-gt-MAX_NAME : goal.returns-then-name-gt-MAX_NAME
returns-then-name-gt-MAX_NAME c =
    too_long _ _ _ _ c.requires c.if-name-gt-MAX_NAME.true

pub overflow_cast-head : goal.overflow_cast-head
overflow_cast-head c =
    omega (arith, c.shared_slice_known-6-1.given c.bucket_of-b.result)

pub walk-walked-requires : goal.walk-walked-requires
walk-walked-requires c =
    let u = c.requires.1 in
    ((names _ _ c.requires.0).long, ((ap length c.row_of-row.ensures ∙ own-length c.args.name.now, node_in _ c.args.heads.now (omega arith) u.firsts _), (u.long, u.nexts)))

pub returns-else-left-eq0 : goal.returns-else-left-eq0
returns-else-left-eq0 c =
    missing-is _ _ _ _ c.requires (omega arith) c.row_of-row.ensures (c.bucket_of-b.ensures.0 ∙ ap bucket_of c.fold.ensures) _ c.walk-walked.ensures c.in-Missing.is c.if-left-eq0.false

pub returns-in-Found : goal.returns-in-Found
returns-in-Found c =
    found-is _ _ _ _ c.requires (omega arith) c.row_of-row.ensures (c.bucket_of-b.ensures.0 ∙ ap bucket_of c.fold.ensures) _ c.walk-walked.ensures c.in-Found.is
