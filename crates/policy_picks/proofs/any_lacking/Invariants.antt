-- The invariant: no rule before i passes.
use mathlib.Core.Path.{◌≡◌, sym, ◌∙◌}
use mathlib.Core.Bool.{false}
use Prim.Native.Nat.{◌-◌, ◌≤◌}
use native.Mathlib.Omega.{arith}
use borrow.Author.Rules.{rules}
use lib.Dec.{leb}
use Rattle.access.specs.Limits.{max_entries}
use Rattle.policy_picks.specs.Picks.{pick_at, any_pick}
use Rattle.laws.specs.Tests.{any_below}
use Rattle.laws.proofs.Tests.{any-start, any_more, any_found, any-done}
use Rattle.sound_rules.specs.Rules.{rule_count}
use Rattle.policy_picks.proofs.any_lacking.Given as goal

abbrev pub invariant-loop-i : goal.invariant-loop-i
invariant-loop-i l = (l.i ≤ rule_count l.rules) × (any_below (pick_at (leb max_entries) l.rules l.picks) l.i ≡ false)

abbrev pub decreases-loop-i : goal.decreases-loop-i
decreases-loop-i l = rule_count l.rules - l.i
