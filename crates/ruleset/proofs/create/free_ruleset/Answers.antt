use mathlib.Core.Path.{◌≡◌, sym, ap, ◌∙◌}
use mathlib.Core.Bool.{false, not}
use Prim.Native.Nat.{◌≤◌, ◌-◌}
use native.Mathlib.Omega.{arith}
use borrow.Author.Rules.{rules}
use Rattle.laws.specs.Tests.{any_below}
use Rattle.laws.proofs.Tests.{any-start, any_more, first_found, first-none}
use Rattle.access.specs.Limits.{max_rulesets}
use Rattle.tables.specs.Layers.{is_open}
use Rattle.ruleset.specs.Create.{free_ruleset}
use Rattle.ruleset.proofs.create.free_ruleset.Goals as goal

pub loop-r-init : goal.loop-r-init
unfolding free_ruleset
loop-r-init c =
    (omega arith, any-start _)

pub returns-then-not-ruleset_open : goal.returns-then-not-ruleset_open
unfolding free_ruleset
returns-then-not-ruleset_open c =
    let l = c.loop-r in first_found _ _ l.r (omega arith) l.invariant.1 (ap not (sym c.ruleset_open.ensures ∙ c.if-not-ruleset_open.true))

pub loop-r-preserved : goal.loop-r-preserved
unfolding free_ruleset
loop-r-preserved c =
    (omega arith, any_more _ _ c.loop-r.invariant.1 (ap not (sym c.ruleset_open.ensures ∙ c.if-not-ruleset_open.false)))

pub returns : goal.returns
unfolding free_ruleset
returns c =
    first-none _ _ c.loop-r.r (omega arith) (omega arith) c.loop-r.invariant.1
