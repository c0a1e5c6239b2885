-- The invariant: the cells below `i` are 0, the others as they were.
use Prim.Native.Nat.{ℕ, ◌≤◌, ◌-◌}
use mathlib.Core.Path.{◌≡◌, refl, ap, ◌∙◌}
use mathlib.Core.List.{List, ◌++◌}
use native.Mathlib.Omega.{arith}
use borrow.Author.Rules.{rules}
use borrow.Author.Fill.{fill_none, fill_more}
use lib.ListN.{length, drop, set, replicate, length-set}
use Rattle.laws.proofs.Cells.{cleared}
use Rattle.named_fresh.proofs.clear_names.Given as goal

abbrev pub invariant-loop-i : goal.invariant-loop-i
invariant-loop-i l = (l.i ≤ length l.initial.names) × (l.names ≡ replicate l.i 0 ++ drop l.i l.initial.names) × (length l.names ≡ length l.initial.names)

abbrev pub decreases-loop-i : goal.decreases-loop-i
decreases-loop-i l = length l.initial.names - l.i
