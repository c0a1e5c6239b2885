-- The invariant: the length of what is left.
use mathlib.Core.Path.{◌≡◌, sym, ap, ◌∙◌}
use Prim.Native.Nat.{ℕ, suc, ◌+◌, ◌*◌, ◌-◌, ◌≤◌}
use native.Mathlib.Omega.{arith}
use lib.ListN.{length}
use Rattle.access.specs.Limits.{max_entries}
use Rattle.names.specs.Names.{name_width}
use Rattle.names.specs.Paths.{path_up}
use Rattle.name_rows.proofs.Bytes.{name_short}
use Rattle.policy_paths.proofs.Lengths.{up_root, up_out, up_length}
use Rattle.policy_paths.proofs.length_up.Given as goal

abbrev pub invariant-loop-left : goal.invariant-loop-left
invariant-loop-left l = (l.left ≤ max_entries) × (l.n ≤ name_width * (max_entries - l.left)) × (length (path_up l.entries l.names max_entries l.e) ≡ l.n + length (path_up l.entries l.names l.left l.x))

abbrev pub decreases-loop-left : goal.decreases-loop-left
decreases-loop-left l = l.left
