use native.Mathlib.Omega.{arith}
use borrow.Author.Rules.{rules}
use Rattle.policy_names.proofs.Buckets.{indexed_more}
use Rattle.policy_names.proofs.mark.Goals as goal

pub returns : goal.returns
returns c =
    indexed_more c.args.f.now c.args.seen.now c.args.at c.args.next c.requires.1 c.requires.0 c.bucket_of-b.ensures.0 c.bucket_of-b.ensures.1
