-- The invariant: what follows in the path is written.
use mathlib.Core.Path.{◌≡◌, sym, ap, ◌∙◌}
use Prim.Native.Nat.{ℕ, ◌-◌, ◌≤◌}
use native.Mathlib.Omega.{arith}
use lib.ListN.{length, set, length-set}
use lib.Seq.{length-sets}
use Rattle.names.specs.Paths.{path_up}
use Rattle.policy_paths.proofs.Lengths.{up_root, up_out, Put, put_none, put_name_lem, put_length, put_on, put_all}
use Rattle.policy_paths.proofs.put_up.Given as goal

abbrev pub invariant-loop-left : goal.invariant-loop-left
invariant-loop-left l = Put l.entries l.names l.initial.out l.end l.e l.out l.at l.x l.left

abbrev pub decreases-loop-left : goal.decreases-loop-left
decreases-loop-left l = l.left
