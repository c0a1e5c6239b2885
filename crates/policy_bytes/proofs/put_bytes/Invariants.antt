use mathlib.Core.Path.{◌≡◌, refl, sym, ◌∙◌}
use Prim.Native.Nat.{◌+◌, ◌≤◌, ◌-◌}
use native.Mathlib.Omega.{arith}
use lib.ListN.{length, drop, length-set}
use lib.Seq.{sets}
use Rattle.policy_bytes.proofs.Puts.{bytes-start, bytes-turn, bytes-done}
use Rattle.policy_bytes.proofs.put_bytes.Given as goal

abbrev pub invariant-loop-i : goal.invariant-loop-i
invariant-loop-i l = (l.i ≤ length l.src) × (length l.out ≡ length l.initial.out) × (sets l.initial.out l.at l.src ≡ sets l.out (l.at + l.i) (drop l.i l.src))

abbrev pub decreases-loop-i : goal.decreases-loop-i
decreases-loop-i l = length l.src - l.i
