-- The invariant: the walk from the place and the entry that the loop has come to is the lookup.
use mathlib.Core.Path.{sym, ◌∙◌}
use Prim.Native.Nat.{◌-◌}
use native.Mathlib.Omega.{arith}
use borrow.Author.Rules.{rules}
use borrow.Author.Tests.{not-true, not-false}
use lib.ListN.{length}
use Rattle.path_lookup.proofs.Steps.{Here, here-start, here_end, here_no_dir, Ends, here-ends, here-long, here_unknown, here_on}
use Rattle.path_lookup.proofs.walk.Given as goal

abbrev pub invariant-loop-e : goal.invariant-loop-e
invariant-loop-e l = Here l.entries l.names l.path l.at l.e

abbrev pub decreases-loop-e : goal.decreases-loop-e
decreases-loop-e l = length l.path - l.at

-- what is known of the component
