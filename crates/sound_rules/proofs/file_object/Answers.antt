use mathlib.Core.Path.{refl}
use native.Mathlib.Omega.{arith}
use Rattle.sound_objects.proofs.Index.{bucket_in}
use Rattle.sound_rules.proofs.Files.{file_no_root, file_no_node, file_by_node}
use Rattle.sound_rules.proofs.file_object.Goals as goal

pub offset_bounds-heads-bucket_of : goal.offset_bounds-heads-bucket_of
offset_bounds-heads-bucket_of c =
    let h = bucket_in _ c.bucket_of.ensures in omega arith

pub bounds-heads-bucket_of : goal.bounds-heads-bucket_of
bounds-heads-bucket_of c =
    let h = bucket_in _ c.bucket_of.ensures in
    let w = c.requires.1.size in
    omega arith

pub returns-then-root-eq0 : goal.returns-then-root-eq0
returns-then-root-eq0 c =
    file_no_root _ c.args.heads.now _ _ c.requires.1 c.bucket_of.ensures c.if-root-eq0.true

pub returns-in-Ok : goal.returns-in-Ok
returns-in-Ok c =
    file_by_node _ c.args.heads.now _ _ c.requires.1 c.bucket_of.ensures _ c.in-Ok.ensures.1 refl

pub returns-in-Err : goal.returns-in-Err
returns-in-Err c =
    file_no_node _ c.args.heads.now _ _ c.requires.1 c.bucket_of.ensures c.in-Err.ensures.1
