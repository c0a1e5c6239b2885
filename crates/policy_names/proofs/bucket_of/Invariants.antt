-- The invariant: what is left of the name comes to its bucket.
use mathlib.Core.Path.{◌≡◌, refl, sym, ◌∙◌}
use Prim.Native.Nat.{◌-◌, ◌≤◌, ◌<◌}
use native.Mathlib.Omega.{arith}
use borrow.Author.Rules.{rules}
use lib.ListN.{length, drop}
use Rattle.policy_names.specs.Buckets.{buckets, bucket_from, bucket_of}
use Rattle.policy_names.proofs.Buckets.{bucket_more, bucket_done}
use Rattle.policy_names.proofs.bucket_of.Given as goal

abbrev pub invariant-loop-i : goal.invariant-loop-i
invariant-loop-i l = (l.i ≤ length l.name) × ((l.h < buckets) × (bucket_from l.h (drop l.i l.name) ≡ bucket_of l.name))

abbrev pub decreases-loop-i : goal.decreases-loop-i
decreases-loop-i l = length l.name - l.i
