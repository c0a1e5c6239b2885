-- The invariant: no rule before i passes.
use mathlib.Core.Path.{◌≡◌, sym, ◌∙◌}
use mathlib.Core.Bool.{false}
use Prim.Native.Nat.{◌-◌, ◌≤◌}
use native.Mathlib.Omega.{arith}
use borrow.Author.Rules.{rules}
use Rattle.policy_picks.specs.Picks.{sweeps_at}
use Rattle.laws.specs.Tests.{any_below}
use Rattle.laws.proofs.Tests.{any-start, any_more, any_found, any-done}
use Rattle.sound_rules.specs.Rules.{rule_count}
use Rattle.policy_picks.proofs.any_sweeps.Given as goal

abbrev pub invariant-loop-i : goal.invariant-loop-i
invariant-loop-i l = (l.i ≤ rule_count l.rules) × (any_below (sweeps_at l.entries l.rules) l.i ≡ false)

abbrev pub decreases-loop-i : goal.decreases-loop-i
decreases-loop-i l = rule_count l.rules - l.i
