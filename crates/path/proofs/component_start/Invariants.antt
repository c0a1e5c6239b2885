-- The invariant: the search from here ends where the component starts.
use mathlib.Core.Path.{◌≡◌, refl, sym, ◌∙◌}
use Prim.Native.Nat.{◌-◌}
use native.Mathlib.Omega.{arith}
use lib.ListN.{length}
use Rattle.names.specs.Paths.{starts_at, component_start}
use Rattle.path.proofs.Places.{from, from_here, from_on, from_end}
use Rattle.path.proofs.component_start.Given as goal

abbrev pub invariant-loop-i : goal.invariant-loop-i
invariant-loop-i l = from (starts_at l.path) (length l.path) l.i ≡ component_start l.path l.at

abbrev pub decreases-loop-i : goal.decreases-loop-i
decreases-loop-i l = length l.path - l.i
