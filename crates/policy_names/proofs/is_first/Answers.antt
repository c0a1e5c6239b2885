use mathlib.Core.Path.{refl}
use native.Mathlib.Omega.{arith}
use borrow.Author.Rules.{rules}
use Rattle.policy_names.proofs.Buckets.{first-named}
use Rattle.policy_names.proofs.is_first.Goals as goal

pub returns-then-seen-b-eq0 : goal.returns-then-seen-b-eq0
returns-then-seen-b-eq0 c =
    first-named c.args.f.now c.args.seen.now c.args.at c.args.next c.requires.1 c.requires.0 (rw c.bucket_of-b.ensures.0 at c.if-seen-b-eq0.true)

pub returns : goal.returns
returns c =
    rw c.place_of.ensures refl
