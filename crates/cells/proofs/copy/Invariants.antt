-- The invariant: the first `i` cells are written.
use mathlib.Core.Path.{◌≡◌}
use Prim.Native.Nat.{◌<◌}
use lib.ListN.{length}
use Rattle.laws.specs.Cells.{copied}
use Rattle.cells.proofs.copy.Given as goal

abbrev pub invariant-loop-i : goal.invariant-loop-i
invariant-loop-i l = (l.t ≡ copied l.initial.t l.from l.src l.i) × (length l.t ≡ length l.initial.t) × (l.from < length l.initial.t)
