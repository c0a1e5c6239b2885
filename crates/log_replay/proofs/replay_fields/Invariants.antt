-- The invariant: some sound tables have the tree, and what is left of the log, on it, comes to the whole log on the first one.
use mathlib.Core.Path.{◌≡◌, refl, sym, subst, ◌∙◌}
use Prim.Native.Nat.{◌-◌, ◌≤◌}
use native.Mathlib.Omega.{arith}
use borrow.Author.Rules.{rules}
use borrow.Author.Tests.{not-true, not-false}
use lib.ListN.{length}
use Rattle.laws.specs.Cells.{part}
use Rattle.policy.specs.Fields.{pieces}
use Rattle.policy.specs.Front.{WholeAt}
use Rattle.policy.proofs.Parts.{part-all}
use Rattle.policy_fields.specs.Fields.{FieldIs}
use Rattle.tree_log.specs.Replay.{replayed}
use Rattle.log_checks.specs.Checks.{tree_with}
use Rattle.log_replay.specs.Replays.{SoundTree, replayed_as}
use Rattle.log_replay.proofs.Steps.{goes_on, sound-on, stops, tail, ends}
use Rattle.log_replay.proofs.replay_fields.Given as goal

abbrev pub invariant-loop-at : goal.invariant-loop-at
invariant-loop-at l = (l.at ≤ l.end) × (length l.entries ≡ length l.initial.entries) × (length l.names ≡ length l.initial.names) × SoundTree (tree_with l.entries l.names l.next)
    × (replayed (pieces l.log) (tree_with l.initial.entries l.initial.names l.initial.next) ≡ replayed (pieces (part l.log l.at l.end)) (tree_with l.entries l.names l.next))

abbrev pub decreases-loop-at : goal.decreases-loop-at
decreases-loop-at l = l.end - l.at

-- the field that starts here
