-- The invariant: the last `n` of the eight bytes make `v`.
use mathlib.Core.Path.{◌≡◌}
use Prim.Native.Nat.{◌+◌, ◌-◌, ◌^◌, ◌≤◌, ◌<◌}
use native.Mathlib.Omega.{arith}
use borrow.Author.Rules.{rules}
use Rattle.ruleset.specs.Attribute.{number}
use Rattle.ruleset.proofs.Numbers.{number_past, number-none, number_more, number-done, grows, fits}
use Rattle.ruleset.proofs.attribute.mask.Given as goal

abbrev pub invariant-loop-n : goal.invariant-loop-n
invariant-loop-n l = (l.n ≤ 8) × (l.v ≡ number l.bytes (l.at + (8 - l.n)) l.n) × (l.v < 256 ^ l.n)

abbrev pub decreases-loop-n : goal.decreases-loop-n
decreases-loop-n l = 8 - l.n
