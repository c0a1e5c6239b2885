use mathlib.Core.Path.{◌≡◌, refl, sym, ◌∙◌}
use Prim.Native.Nat.{◌+◌, ◌≤◌, ◌-◌}
use native.Mathlib.Omega.{arith}
use lib.ListN.{length, length-set}
use lib.Seq.{sets}
use Rattle.policy.specs.Fields.{bytes_of}
use Rattle.policy_bytes.proofs.Puts.{number-start, number-turn, number-done}
use Rattle.policy_bytes.proofs.put_number.Given as goal

abbrev pub invariant-loop-i : goal.invariant-loop-i
invariant-loop-i l = (l.i ≤ l.n) × (length l.out ≡ length l.initial.out) × (sets l.initial.out l.at (bytes_of l.n l.x) ≡ sets l.out (l.at + l.i) (bytes_of (l.n - l.i) l.rest))

abbrev pub decreases-loop-i : goal.decreases-loop-i
decreases-loop-i l = l.n - l.i
