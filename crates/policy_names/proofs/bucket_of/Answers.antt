use mathlib.Core.Path.{◌≡◌, refl, sym, ◌∙◌}
use Prim.Native.Nat.{◌-◌, ◌≤◌, ◌<◌}
use native.Mathlib.Omega.{arith}
use borrow.Author.Rules.{rules}
use lib.ListN.{length, drop}
use Rattle.policy_names.specs.Buckets.{buckets, bucket_from, bucket_of}
use Rattle.policy_names.proofs.Buckets.{bucket_more, bucket_done}
use Rattle.policy_names.proofs.bucket_of.Goals as goal

pub loop-i-init : goal.loop-i-init
loop-i-init c =
    (omega arith, (omega arith, refl))

pub loop-i-preserved : goal.loop-i-preserved
loop-i-preserved c =
    let l = c.loop-i in
    let name = c.args.name.now in
    (omega arith, (omega arith, rw c.wide.ensures.0 (bucket_more name l.h l.i (omega arith) ∙ l.invariant.1.1)))

pub returns : goal.returns
returns c =
    let l = c.loop-i in (sym (bucket_done c.args.name.now l.h l.i (omega arith) l.invariant.0) ∙ l.invariant.1.1, l.invariant.1.0)
