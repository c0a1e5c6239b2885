-- The invariant: there is a group exactly if there is one from here on.
use mathlib.Core.Path.{◌≡◌, sym, subst, ap, ◌∙◌}
use Prim.Native.Nat.{ℕ, ◌≤◌, ◌-◌}
use native.Mathlib.Omega.{arith}
use borrow.Author.Rules.{rules}
use lib.ListN.{length}
use Rattle.laws.specs.Cells.{part}
use Rattle.policy.specs.Fields.{pieces}
use Rattle.policy.specs.Front.{WholeAt}
use Rattle.policy.specs.Meaning.{any_group}
use Rattle.policy_fields.specs.Fields.{FieldIs}
use Rattle.policy_attribute.proofs.Groups.{any-start, any-done, any_here, any-cut, any-past}
use Rattle.policy_attribute.proofs.any_group.Given as goal

abbrev pub invariant-loop-at : goal.invariant-loop-at
invariant-loop-at l = (l.at ≤ l.end) × (any_group (pieces l.part) ≡ any_group (pieces (part l.part l.at l.end)))

abbrev pub decreases-loop-at : goal.decreases-loop-at
decreases-loop-at l = l.end - l.at

-- the field is whole
