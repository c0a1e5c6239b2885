-- The invariant: the cells before i hold their picks.
use mathlib.Core.Path.{◌≡◌, refl, sym, ap, ◌∙◌}
use Prim.Native.Nat.{ℕ, ◌-◌, ◌≤◌, ◌<◌}
use native.Mathlib.Omega.{arith}
use lib.ListN.{length, get_or, length-set}
use borrow.Author.Rules.{rules}
use Rattle.sound_rules.specs.Rules.{rule_count}
use Rattle.policy_picks.specs.Picks.{pick_of}
use Rattle.policy_picks.proofs.Picking.{filled_more}
use Rattle.policy_picks.proofs.pick_all.Given as goal

abbrev pub invariant-loop-i : goal.invariant-loop-i
invariant-loop-i l = (l.i ≤ rule_count l.rules) × (length l.picks ≡ length l.initial.picks) × ((j : ℕ) → j < l.i → get_or l.picks j 0 ≡ pick_of l.entries l.names l.rules j)

abbrev pub decreases-loop-i : goal.decreases-loop-i
decreases-loop-i l = rule_count l.rules - l.i
