-- The invariant: what is chosen among the entries below e.
use mathlib.Core.Path.{◌≡◌}
use Prim.Native.Nat.{◌-◌, ◌≤◌}
use native.Mathlib.Omega.{arith}
use Rattle.access.specs.Limits.{max_entries}
use Rattle.policy_write.specs.Chosen.{chosen_below}
use Rattle.policy_paths.proofs.Choosing.{chosen_on, chosen_none, chosen-all, chosen_live}
use Rattle.policy_paths.proofs.choose.Given as goal

abbrev pub invariant-loop-e : goal.invariant-loop-e
invariant-loop-e l = (l.e ≤ max_entries) × (l.c ≡ chosen_below l.entries l.names l.o l.e)

abbrev pub decreases-loop-e : goal.decreases-loop-e
decreases-loop-e l = max_entries - l.e
