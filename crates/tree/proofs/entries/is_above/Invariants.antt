-- The invariant: the rest of the climb decides.
use mathlib.Core.Path.{◌≡◌, refl}
use native.Mathlib.Omega.{arith}
use Rattle.tree.specs.Entries.{above, is_above}
use Rattle.tree.proofs.Above.{climb_hit, climb_root, climb_up, climb_end}
use Rattle.tree.proofs.entries.is_above.Given as goal

abbrev pub invariant-loop-n : goal.invariant-loop-n
invariant-loop-n l = is_above l.entries l.a l.x ≡ above l.entries l.n l.a l.at

abbrev pub decreases-loop-n : goal.decreases-loop-n
decreases-loop-n l = l.n
