-- Reading a group calls the field reader on what is left of its part, and a group's own part is shorter than the field that it is in by more than a
-- byte: the measure is twice the length left, and one more for a group.
use mathlib.Core.Path.{◌≡◌}
use Prim.Native.Nat.{◌+◌, ◌-◌, ◌*◌, ◌≤◌}
use Rattle.laws.specs.Cells.{part}
use Rattle.policy.specs.Fields.{pieces}
use Rattle.policy.specs.Grammar.{each, rule}
use Rattle.policy_rules.proofs.+read_field_read_group.Given as goal

abbrev pub decreases-read_field : goal.decreases-read_field
decreases-read_field l = 2 * (l.s.end - l.s.at)

abbrev pub decreases-read_group : goal.decreases-read_group
decreases-read_group l = 2 * (l.s.end - l.s.at) + 1

abbrev pub invariant-read_group-loop-at : goal.invariant-read_group-loop-at
invariant-read_group-loop-at l =
    (l.initial.at ≤ l.at) × (l.at ≤ l.end) × (each (rule l.depth) l.initial.at (pieces (part l.f l.initial.at l.end)) ≡ each (rule l.depth) l.at (pieces (part l.f l.at l.end)))

abbrev pub decreases-read_group-loop-at : goal.decreases-read_group-loop-at
decreases-read_group-loop-at l = l.end - l.at
