-- The invariant: no entry below `x` bears the name.
use mathlib.Core.Path.{◌≡◌}
use mathlib.Core.Bool.{false}
use Prim.Native.Nat.{◌/◌, ◌≤◌, ◌-◌, min}
use lib.ListN.{length}
use Rattle.laws.specs.Tests.{any_below}
use Rattle.access.specs.Limits.{max_entries}
use Rattle.tables.specs.Tables.{entry_width}
use Rattle.names.specs.Names.{bears}
use Rattle.name_bearer.proofs.bearer_from.Given as goal

abbrev pub invariant-loop-x : goal.invariant-loop-x
invariant-loop-x l =
    (l.x ≤ l.n) × (l.n ≡ min (length l.entries / entry_width) max_entries) × (any_below (bears l.entries l.names l.d l.name) l.x ≡ false)

abbrev pub decreases-loop-x : goal.decreases-loop-x
decreases-loop-x l = l.n - l.x
