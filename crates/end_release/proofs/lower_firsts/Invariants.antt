-- The invariant: the layers below `n` are lowered.
use mathlib.Core.Path.{◌≡◌, refl, ap, ◌∙◌}
use Prim.Native.Nat.{◌≤◌, ◌-◌}
use native.Mathlib.Omega.{arith}
use lib.ListN.{length}
use Rattle.access.specs.Limits.{max_layers}
use Rattle.domain_end.specs.End.{lowered}
use Rattle.domain_end.proofs.Loops.{lowered_none, lowered_more}
use Rattle.end_release.proofs.lower_firsts.Given as goal

abbrev pub invariant-loop-n : goal.invariant-loop-n
invariant-loop-n l = (l.n ≤ max_layers) × (l.layers ≡ lowered l.initial.layers l.first l.count l.n) × (length l.layers ≡ length l.initial.layers)

abbrev pub decreases-loop-n : goal.decreases-loop-n
decreases-loop-n l = max_layers - l.n
