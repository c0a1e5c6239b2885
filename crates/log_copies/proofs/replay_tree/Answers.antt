use mathlib.Core.Path.{◌∙◌}
use native.Mathlib.Omega.{arith}
use borrow.Author.Rules.{rules}
use Rattle.log_copies.proofs.Copies.{cells_whole, bytes_whole}
use Rattle.log_copies.proofs.Whole.{entries-long, names-long, starts, stopped, finished}
use Rattle.log_copies.proofs.replay_tree.Goals as goal

pub put_bytes-requires : goal.put_bytes-requires
put_bytes-requires c =
    let l = names-long _ c.requires in omega arith

pub replay_fields-replay-requires : goal.replay_fields-replay-requires
replay_fields-replay-requires c =
    let a = c.args in
    starts a.entries.now a.names.now a.next.now (c.copy.ensures ∙ cells_whole _ _ (entries-long _ c.requires)) (c.put_bytes.ensures ∙ bytes_whole _ _ (names-long _ c.requires)) c.requires

pub returns-in_default : goal.returns-in_default
returns-in_default c =
    let a = c.args in
    let p = stopped a.entries.now a.names.now a.next.now (c.copy.ensures ∙ cells_whole _ _ (entries-long _ c.requires)) (c.put_bytes.ensures ∙ bytes_whole _ _ (names-long _ c.requires))
    a.log.now _ _ c.replay_fields-replay.ensures c.in_default.is in
    record { answer = p.0; left = p.1 }

pub put_bytes-requires-2 : goal.put_bytes-requires-2
put_bytes-requires-2 c =
    let l = names-long _ c.requires in omega arith

pub returns : goal.returns
returns c =
    let a = c.args in
    let l = entries-long _ c.requires in
    let n = names-long _ c.requires in
    let p = finished a.entries.now a.names.now a.next.now (c.copy.ensures ∙ cells_whole _ _ l) (c.put_bytes.ensures ∙ bytes_whole _ _ n)
    a.log.now _ _ c.replay_fields-replay.ensures _ c.in-Applied.is (c.copy-2.ensures ∙ cells_whole _ _ (omega arith)) (c.put_bytes-2.ensures ∙ bytes_whole _ _ (omega arith)) in
    record { answer = p.0; left = p.1 }
