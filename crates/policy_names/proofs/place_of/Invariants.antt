-- The invariant: the first ruleset of the name is the first from here on.
use mathlib.Core.Path.{◌≡◌, sym, subst, ap, ◌∙◌}
use Prim.Native.Nat.{ℕ, ◌≤◌, ◌-◌}
use native.Mathlib.Omega.{arith}
use borrow.Author.Rules.{rules}
use lib.ListN.{length}
use Rattle.laws.specs.Cells.{part}
use Rattle.policy.specs.Fields.{pieces}
use Rattle.policy.specs.Front.{WholeAt}
use Rattle.policy.specs.Files.{opens, first_place, place_of}
use Rattle.policy.proofs.Walks.{opens-same, opens-other, opens-cut, first-start, first_done, first-here, first_past, first-cut}
use Rattle.policy_fields.specs.Fields.{FieldIs}
use Rattle.policy_names.proofs.place_of.Given as goal

abbrev pub invariant-loop-at : goal.invariant-loop-at
invariant-loop-at l = (l.at ≤ l.end) × (place_of l.f l.name ≡ first_place (opens l.name) l.at (pieces (part l.f l.at l.end)))

abbrev pub decreases-loop-at : goal.decreases-loop-at
decreases-loop-at l = l.end - l.at

-- the field is whole
