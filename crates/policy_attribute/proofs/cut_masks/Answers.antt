use mathlib.Core.Path.{ap}
use native.Mathlib.Omega.{arith}
use borrow.Author.Rules.{rules}
use lib.ListN.{length}
use lib.Seq.{length-sets}
use Rattle.access.specs.Rights.{known_fs, known_net, known_scope}
use Rattle.policy_attribute.proofs.Cut.{cut-is, masks-cut}
use Rattle.policy_attribute.proofs.cut_masks.Goals as goal

pub put_number-requires-3 : goal.put_number-requires-3
put_number-requires-3 c =
    omega (arith, simp length-sets at (ap length c.put_number-2.ensures), simp length-sets at (ap length c.put_number.ensures), c.requires)

pub returns : goal.returns
returns c =
    let l = c.args.level in
    masks-cut l c.args.masks.now c.args.out.now c.requires
    (cut-is known_fs l c.cut_mask-fs.ensures c.mask.ensures c.known_fs.ensures c.known_fs-2.ensures)
    (cut-is known_net l c.cut_mask-net.ensures c.mask-2.ensures c.known_net.ensures c.known_net-2.ensures)
    (cut-is known_scope l c.cut_mask-scope.ensures c.mask-3.ensures c.known_scope.ensures c.known_scope-2.ensures)
    c.put_number.ensures c.put_number-2.ensures c.put_number-3.ensures
