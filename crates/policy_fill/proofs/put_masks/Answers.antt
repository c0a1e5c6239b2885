use mathlib.Core.Path.{◌≡◌, refl, sym, ap, ◌∙◌}
use native.Mathlib.Omega.{arith}
use borrow.Author.Rules.{rules}
use Prim.Native.Nat.{◌+◌}
use mathlib.Core.List.{◌++◌}
use lib.ListN.{length, length-append}
use Rattle.policy.specs.Fields.{bytes_of, masks_tag}
use Rattle.policy_write.proofs.Bytes.{length-bytes}
use Rattle.policy_fill.proofs.Parts.{put_two, put_rule}
use Rattle.policy_fill.proofs.put_masks.Goals as goal

pub put_rights-requires : goal.put_rights-requires
put_rights-requires c =
    let p = c.requires in (omega arith, omega arith)

pub overflow_add-at : goal.overflow_add-at
overflow_add-at c =
    let p = c.requires in omega arith

pub overflow_add-at-2 : goal.overflow_add-at-2
overflow_add-at-2 c =
    let p = c.requires in omega arith

pub put_number-requires : goal.put_number-requires
put_number-requires c =
    let p = c.requires in omega arith

pub overflow_add-at-3 : goal.overflow_add-at-3
overflow_add-at-3 c =
    let p = c.requires in omega arith

pub overflow_add-at-4 : goal.overflow_add-at-4
overflow_add-at-4 c =
    let p = c.requires in omega arith

pub put_number-requires-2 : goal.put_number-requires-2
put_number-requires-2 c =
    let p = c.requires in omega arith

pub overflow_add-result : goal.overflow_add-result
overflow_add-result c =
    let p = c.requires in omega arith

pub overflow_add-result-2 : goal.overflow_add-result-2
overflow_add-result-2 c =
    let p = c.requires in omega arith

pub returns : goal.returns
returns c =
    let a = c.args in
    let n = bytes_of 8 a.net.0 in
    let s = bytes_of 8 a.scope.0 in
    let x = length-append n s in
    let y = length-bytes 8 a.net.0 in
    let z = length-bytes 8 a.scope.0 in
    (put_rule a.out.now a.at masks_tag a.fs.0 (n ++ s) {len = 24} (omega arith) refl c.put_rights.ensures (put_two _ _ n s c.put_number.ensures c.put_number-2.ensures (omega arith)) (omega arith), omega arith)
