-- The invariant: every ruleset below `r` is open.
use mathlib.Core.Path.{◌≡◌, sym, ap, ◌∙◌}
use mathlib.Core.Bool.{false, not}
use Prim.Native.Nat.{◌≤◌, ◌-◌}
use native.Mathlib.Omega.{arith}
use borrow.Author.Rules.{rules}
use Rattle.laws.specs.Tests.{any_below}
use Rattle.laws.proofs.Tests.{any-start, any_more, first_found, first-none}
use Rattle.access.specs.Limits.{max_rulesets}
use Rattle.tables.specs.Layers.{is_open}
use Rattle.ruleset.specs.Create.{free_ruleset}
use Rattle.ruleset.proofs.create.free_ruleset.Given as goal

abbrev pub invariant-loop-r : goal.invariant-loop-r
invariant-loop-r l = (l.r ≤ max_rulesets) × (any_below (λ k. not (is_open l.rulesets k)) l.r ≡ false)

abbrev pub decreases-loop-r : goal.decreases-loop-r
decreases-loop-r l = max_rulesets - l.r
