-- The invariant: the search from here ends where the component ends.
use mathlib.Core.Path.{◌≡◌, refl, sym, ◌∙◌}
use Prim.Native.Nat.{◌-◌}
use native.Mathlib.Omega.{arith}
use lib.ListN.{length}
use Rattle.names.specs.Paths.{component_end}
use Rattle.path.proofs.Places.{from, from_here, from_on, from_end, stops, stops_at, goes_on}
use Rattle.path.proofs.component_end.Given as goal

abbrev pub invariant-loop-i : goal.invariant-loop-i
invariant-loop-i l = from (stops l.path) (length l.path) l.i ≡ component_end l.path l.from

abbrev pub decreases-loop-i : goal.decreases-loop-i
decreases-loop-i l = length l.path - l.i
