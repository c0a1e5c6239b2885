-- The invariant: `at` starts a rule, and none before it is the one.
use Prim.Native.Nat.{ℕ, ◌+◌, ◌*◌, ◌/◌, ◌≤◌, ◌-◌}
use mathlib.Core.Path.{◌≡◌, refl, sym, ap, ◌∙◌}
use mathlib.Core.Bool.{false}
use native.Mathlib.Omega.{arith}
use Rattle.laws.specs.Tests.{any_below}
use Rattle.laws.proofs.Tests.{any-start, any_more, first_found, first-none}
use Rattle.tables.specs.Tables.{rule_width}
use Rattle.judge.specs.Rules.{is_rule, rule_place}
use Rattle.judge.proofs.rules.rule_start.Given as goal

abbrev pub invariant-loop-at : goal.invariant-loop-at
invariant-loop-at l = (l.at ≤ l.end) × (l.at ≡ rule_width * (l.at / rule_width)) × (any_below (is_rule l.rules l.ty l.key) (l.at / rule_width) ≡ false)

abbrev pub decreases-loop-at : goal.decreases-loop-at
decreases-loop-at l = l.end - l.at
