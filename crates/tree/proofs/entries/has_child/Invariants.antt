-- The invariant: no entry below `x` stands in the directory.
use Prim.Native.Nat.{◌≤◌, ◌-◌}
use mathlib.Core.Path.{◌≡◌, sym, ◌∙◌}
use mathlib.Core.Bool.{false}
use native.Mathlib.Omega.{arith}
use Rattle.laws.specs.Tests.{any_below}
use Rattle.laws.proofs.Tests.{any-start, any_more, any_found, any-done}
use Rattle.access.specs.Limits.{max_entries}
use Rattle.tree.specs.Entries.{is_child}
use Rattle.tree.proofs.entries.has_child.Given as goal

abbrev pub invariant-loop-x : goal.invariant-loop-x
invariant-loop-x l = (l.x ≤ max_entries) × (any_below (is_child l.entries l.e) l.x ≡ false)

abbrev pub decreases-loop-x : goal.decreases-loop-x
decreases-loop-x l = max_entries - l.x
