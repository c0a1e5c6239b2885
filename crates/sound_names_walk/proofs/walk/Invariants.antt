-- The invariant: what is on the chain from `at` is on that from `head`, and if none of it has the name, none of that has.
use mathlib.Core.Path.{refl}
use Prim.Native.Nat.{ℕ, ◌<◌}
use native.Mathlib.Omega.{arith}
use Rattle.access.specs.Limits.{max_entries}
use Rattle.sound_names_walk.specs.Walks.{On, here, next, IsWalked}
use Rattle.sound_names_walk.proofs.Walks.{Clear, clear_end, clear_more, same_here, node_in}
use Rattle.sound_names_walk.proofs.walk.Given as goal

abbrev pub invariant-loop-at : goal.invariant-loop-at
invariant-loop-at l = (l.at < max_entries) × ((Clear l.entries l.names l.links l.parent l.row l.at → Clear l.entries l.names l.links l.parent l.row l.head) × ((f : ℕ) → On l.links l.at f → On l.links l.head f))

abbrev pub decreases-loop-at : goal.decreases-loop-at
decreases-loop-at l = l.left
