-- The invariant: `zero` says whether every byte below `k` is 0.
use mathlib.Core.Path.{◌≡◌, refl}
use Prim.Native.Nat.{◌≤◌, ◌-◌}
use native.Mathlib.Omega.{arith}
use lib.Dec.{eqb}
use lib.ListN.{get_or}
use Rattle.laws.specs.Tests.{all_below}
use Rattle.laws.specs.Cells.{zeros}
use Rattle.names.specs.Names.{name_width}
use Rattle.sound_names_rows.proofs.Tests.{all_start, all_with, all_end}
use Rattle.sound_names_rows.proofs.row_zero.Given as goal

abbrev pub invariant-loop-k : goal.invariant-loop-k
invariant-loop-k l = (l.k ≤ name_width) × (l.zero ≡ all_below (λ i. eqb (get_or l.row i 0) 0) l.k)

abbrev pub decreases-loop-k : goal.decreases-loop-k
decreases-loop-k l = name_width - l.k
