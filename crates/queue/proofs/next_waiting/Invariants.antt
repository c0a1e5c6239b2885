-- The invariant: the rest of the search decides.
use mathlib.Core.Path.{◌≡◌, refl}
use native.Mathlib.Omega.{arith}
use Rattle.queue.specs.Queue.{seek, next_waiting}
use Rattle.queue.proofs.Seeks.{seek_hit, seek-on, seek-end}
use Rattle.queue.proofs.next_waiting.Given as goal

abbrev pub invariant-loop-n : goal.invariant-loop-n
invariant-loop-n l = next_waiting l.states l.cursor ≡ seek l.states l.n l.at

abbrev pub decreases-loop-n : goal.decreases-loop-n
decreases-loop-n l = l.n
