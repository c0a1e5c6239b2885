use mathlib.Core.Path.{◌≡◌, refl, sym, ap, ◌∙◌}
use native.Mathlib.Omega.{arith}
use borrow.Author.Rules.{rules}
use Prim.Native.Nat.{ℕ, ◌+◌, ◌-◌, ◌≤◌}
use lib.ListN.{length, get_or}
use lib.Seq.{sets}
use Rattle.policy_size.specs.Fields.{path_field, fields_in}
use Rattle.policy_fill.proofs.Parts.{turn-length, turn-room, turn-bytes, turn_end}
use Rattle.policy_fill.proofs.put_paths.Given as goal

abbrev pub invariant-loop-j : goal.invariant-loop-j
invariant-loop-j l = (l.j ≤ l.k) × (l.out ≡ sets l.initial.out l.from (fields_in (path_field l.entries l.names l.rules l.picks) l.order l.j)) × (l.at ≡ l.from + length (fields_in (path_field l.entries l.names l.rules l.picks) l.order l.j))

abbrev pub decreases-loop-j : goal.decreases-loop-j
decreases-loop-j l = l.k - l.j
