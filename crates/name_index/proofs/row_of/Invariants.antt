-- The invariant: the length and the first `i` bytes are written.
use mathlib.Core.Path.{◌≡◌, ◌∙◌}
use mathlib.Core.List.{◌∷◌}
use Prim.Native.Nat.{◌+◌, ◌≤◌, ◌-◌}
use native.Mathlib.Omega.{arith}
use lib.ListN.{length, replicate}
use Rattle.laws.specs.Cells.{copied}
use Rattle.names.specs.Names.{name_width}
use Rattle.name_index.proofs.Row.{own-start, own_more, own-written}
use Rattle.name_index.proofs.row_of.Given as goal

abbrev pub invariant-loop-i : goal.invariant-loop-i
invariant-loop-i l = (l.i ≤ length l.name) × (l.row ≡ copied (replicate name_width 0) 0 (length l.name ∷ l.name) (l.i + 1))

abbrev pub decreases-loop-i : goal.decreases-loop-i
decreases-loop-i l = length l.name - l.i
