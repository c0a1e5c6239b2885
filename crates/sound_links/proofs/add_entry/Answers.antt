use Rattle.sound_objects.proofs.Live.{live_no, live_yes}
use Rattle.sound_objects.proofs.Index.{index_free}
use Rattle.sound_tree.proofs.Rows.{links-free}
use Rattle.sound_links.proofs.Adds.{adds_root, adds_same, adds_child}
use Rattle.sound_links.proofs.add_entry.Goals as goal

pub returns-then-kind-eq0 : goal.returns-then-kind-eq0
returns-then-kind-eq0 c =
    let l = live_no _ _ c.if-kind-eq0.true in
    (links-free _ _ l, λ r. index_free _ c.requires.1 l)

pub returns-then-root-eq0 : goal.returns-then-root-eq0
returns-then-root-eq0 c =
    let r = adds_root _ _ c.args.links.now c.requires.0.1 c.requires.1 (live_yes _ _ c.if-kind-eq0.false) c.bucket_of-b.ensures c.if-root-eq0.true in
    (r.0, λ h. r.1)

pub returns-in-Ok : goal.returns-in-Ok
returns-in-Ok c =
    adds_same _ c.args.heads.now c.args.links.now c.requires.0.1 c.requires.1 (live_yes _ _ c.if-kind-eq0.false) c.bucket_of-b.ensures _ c.in-Ok.ensures.1 c.kinds_agree.ensures

pub returns-in-Err : goal.returns-in-Err
returns-in-Err c =
    let r = adds_child _ c.args.heads.now _ c.requires.0.1 c.requires.1 (live_yes _ _ c.if-kind-eq0.false) c.bucket_of-b.ensures c.in-Err.ensures.1 in
    (r.0, λ h. r.1)
