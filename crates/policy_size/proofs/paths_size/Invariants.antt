-- The invariant: the sum over the first j.
use mathlib.Core.Path.{◌≡◌, sym, ap, ◌∙◌}
use Prim.Native.Nat.{ℕ, ◌+◌, ◌*◌, ◌-◌, ◌≤◌}
use native.Mathlib.Omega.{arith}
use borrow.Author.Rules.{rules}
use lib.ListN.{length, get_or}
use Rattle.policy_size.specs.Fields.{path_size, max_path_size, sum_in}
use Rattle.policy_size.proofs.Fields.{sum_none, sum_more}
use Rattle.policy_size.proofs.paths_size.Given as goal

abbrev pub invariant-loop-j : goal.invariant-loop-j
invariant-loop-j l = (l.j ≤ l.k) × (l.n ≡ sum_in (path_size l.entries l.names l.picks) l.order l.j) × (l.n ≤ max_path_size * l.j)

abbrev pub decreases-loop-j : goal.decreases-loop-j
decreases-loop-j l = l.k - l.j
