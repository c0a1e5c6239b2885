-- The invariant: the first `k` bytes of the row are written.
use mathlib.Core.Path.{◌≡◌, ap, ◌∙◌}
use mathlib.Core.List.{◌∷◌}
use Prim.Native.Nat.{ℕ, ◌+◌, ◌≤◌, ◌-◌, ◌*◌}
use native.Mathlib.Omega.{arith}
use borrow.Author.Rules.{rules}
use lib.ListN.{length, set}
use Rattle.laws.specs.Cells.{copied}
use Rattle.laws.proofs.Copies.{copied_none, copied_more, copied-cut, length-copied}
use Rattle.names.specs.Names.{name_width, put_name}
use Rattle.name_rows.proofs.put_name.Given as goal

abbrev pub invariant-loop-k : goal.invariant-loop-k
invariant-loop-k l = (l.k ≤ name_width) × (l.from ≤ length l.initial.names) × (l.names ≡ copied l.initial.names l.from (length l.name ∷ l.name) l.k)

abbrev pub decreases-loop-k : goal.decreases-loop-k
decreases-loop-k l = name_width - l.k
