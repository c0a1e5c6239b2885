-- The invariant: no rule before i passes.
use mathlib.Core.Path.{◌≡◌, sym, ◌∙◌}
use mathlib.Core.Bool.{false}
use Prim.Native.Nat.{◌-◌, ◌≤◌}
use native.Mathlib.Omega.{arith}
use borrow.Author.Rules.{rules}
use lib.Dec.{ltb}
use lib.ListN.{length}
use Rattle.names.specs.Paths.{max_path, path_of}
use Rattle.policy_picks.specs.Picks.{pick_at, any_pick}
use Rattle.laws.specs.Tests.{any_below}
use Rattle.laws.proofs.Tests.{any-start, any_more, any_found, any-done}
use Rattle.sound_rules.specs.Rules.{rule_count}
use Rattle.policy_picks.proofs.any_overlong.Given as goal

abbrev pub invariant-loop-i : goal.invariant-loop-i
invariant-loop-i l = (l.i ≤ rule_count l.rules) × (any_below (pick_at (λ e. ltb max_path (length (path_of l.entries l.names e))) l.rules l.picks) l.i ≡ false)

abbrev pub decreases-loop-i : goal.decreases-loop-i
decreases-loop-i l = rule_count l.rules - l.i
