-- The invariant: the first `k` cells of the row are zero.
use mathlib.Core.Path.{◌≡◌, refl, ap, ◌∙◌}
use mathlib.Core.List.{[]}
use Prim.Native.Nat.{◌≤◌, ◌-◌, ◌*◌}
use native.Mathlib.Omega.{arith}
use lib.ListN.{length}
use Rattle.laws.specs.Cells.{copied}
use Rattle.laws.proofs.Copies.{copied_none}
use Rattle.domain_end.proofs.Loops.{zero_more}
use Rattle.end_release.proofs.zero_row.Given as goal

abbrev pub invariant-loop-k : goal.invariant-loop-k
invariant-loop-k l = (l.k ≤ l.width) × (l.t ≡ copied l.initial.t (l.width * l.i) [] l.k) × (length l.t ≡ length l.initial.t)

abbrev pub decreases-loop-k : goal.decreases-loop-k
decreases-loop-k l = l.width - l.k
