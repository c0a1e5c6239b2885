-- The invariant: what is left of the file reads as the whole, and the names so far are in their buckets.
use mathlib.Core.Path.{◌≡◌, sym, subst, ap, ◌∙◌}
use Prim.Native.Nat.{ℕ, ◌≤◌, ◌-◌, ◌<◌}
use native.Mathlib.Omega.{arith}
use borrow.Author.Rules.{rules}
use lib.ListN.{length, get_or}
use Rattle.laws.specs.Cells.{part}
use Rattle.policy.specs.Fields.{pieces}
use Rattle.policy.specs.Files.{read_from, read_file}
use Rattle.policy_names.specs.Buckets.{Indexed}
use Rattle.policy_names.proofs.Buckets.{indexed-start}
use Rattle.policy_files.specs.Next.{IndexedAfter}
use Rattle.policy_files.proofs.Reading.{read-start, read-on, read_fault, read_short, read-fine}
use Rattle.policy_files.proofs.read_with.Given as goal

abbrev pub invariant-loop-at : goal.invariant-loop-at
invariant-loop-at l = (l.at ≤ length l.f) × ((read_file l.f ≡ read_from l.f l.before l.at (pieces (part l.f l.at (length l.f)))) × Indexed l.f l.seen l.at)

abbrev pub decreases-loop-at : goal.decreases-loop-at
decreases-loop-at l = length l.f - l.at

-- a turn
