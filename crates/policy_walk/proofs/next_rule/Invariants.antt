-- The invariant: the rules from here on are all of the part.
use mathlib.Core.Path.{◌≡◌, refl, sym, subst, ap, ◌∙◌}
use Prim.Native.Nat.{ℕ, ◌-◌, ◌≤◌}
use native.Mathlib.Omega.{arith}
use borrow.Author.Rules.{rules}
use Rattle.laws.specs.Cells.{part}
use Rattle.policy.specs.Front.{WholeAt}
use Rattle.policy_fields.specs.Fields.{FieldIs}
use Rattle.policy_walk.specs.Flat.{flatten}
use Rattle.policy_walk.proofs.Steps.{past-on, at_cut, at-rule, at_other, at_group, at-end}
use Rattle.policy_walk.proofs.next_rule.Given as goal

abbrev pub invariant-loop-at : goal.invariant-loop-at
invariant-loop-at l = (l.initial.at ≤ l.at) × (l.at ≤ l.end) × (flatten l.level (part l.f l.initial.at l.end) ≡ flatten l.level (part l.f l.at l.end))

abbrev pub decreases-loop-at : goal.decreases-loop-at
decreases-loop-at l = l.end - l.at

-- the field is whole
