-- The invariant: the next ruleset is the first from here on.
use mathlib.Core.Path.{◌≡◌, refl, sym, subst, ap, ◌∙◌}
use Prim.Native.Nat.{ℕ, ◌≤◌, ◌-◌}
use native.Mathlib.Omega.{arith}
use borrow.Author.Rules.{rules}
use lib.ListN.{length}
use Rattle.laws.specs.Cells.{part}
use Rattle.policy.specs.Fields.{pieces}
use Rattle.policy.specs.Front.{WholeAt}
use Rattle.policy.specs.Files.{first_place}
use Rattle.policy.specs.Find.{is_opening, next_ruleset}
use Rattle.policy.proofs.Walks.{first_done, first-here, first_past, first-cut}
use Rattle.policy_fields.specs.Fields.{FieldIs}
use Rattle.policy_find.proofs.Finding.{opening, no_opening}
use Rattle.policy_find.proofs.next_ruleset.Given as goal

abbrev pub invariant-loop-at : goal.invariant-loop-at
invariant-loop-at l = (l.at ≤ l.end) × (next_ruleset l.f l.from ≡ first_place is_opening l.at (pieces (part l.f l.at l.end)))

abbrev pub decreases-loop-at : goal.decreases-loop-at
decreases-loop-at l = l.end - l.at

-- the field is whole
