-- The invariant: `fine` says whether every pair below `k` fits.
use mathlib.Core.Path.{◌≡◌, refl, ◌∙◌}
use Prim.Native.Nat.{suc, ◌≤◌, ◌-◌}
use native.Mathlib.Omega.{arith}
use native.Mathlib.Numerals.{add-one}
use lib.ListN.{get_or}
use Rattle.laws.specs.Tests.{all_below}
use Rattle.names.specs.Names.{max_name}
use Rattle.sound_names_rows.specs.Form.{fitting, fitting_pairs}
use Rattle.sound_names_rows.proofs.Tests.{all_start, all_with, all_end}
use Rattle.sound_names_rows.proofs.pairs_fitting.Given as goal

abbrev pub invariant-loop-k : goal.invariant-loop-k
invariant-loop-k l = (l.k ≤ max_name) × (l.fine ≡ all_below (λ i. fitting (get_or l.row i 0) (get_or l.row (suc i) 0)) l.k)

abbrev pub decreases-loop-k : goal.decreases-loop-k
decreases-loop-k l = max_name - l.k
