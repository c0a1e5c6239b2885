use Prim.Native.Nat.{ℕ, ◌+◌, ◌*◌, ◌/◌, ◌≤◌, ◌-◌}
use mathlib.Core.Path.{◌≡◌, refl, sym, ap, ◌∙◌}
use mathlib.Core.Bool.{false}
use native.Mathlib.Omega.{arith}
use Rattle.laws.specs.Tests.{any_below}
use Rattle.laws.proofs.Tests.{any-start, any_more, first_found, first-none}
use Rattle.tables.specs.Tables.{rule_width}
use Rattle.judge.specs.Rules.{is_rule, rule_place}
use Rattle.judge.proofs.rules.rule_start.Goals as goal

pub loop-at-init : goal.loop-at-init
unfolding rule_place
loop-at-init c =
    (omega arith, refl, any-start _)

pub is_rule-requires : goal.is_rule-requires
unfolding rule_place
is_rule-requires c =
    let s = c.loop-at.invariant.1 in record { start = s; room = omega arith }

pub returns-then-is_rule : goal.returns-then-is_rule
unfolding rule_place
returns-then-is_rule c =
    let l = c.loop-at in
    let s = l.invariant.1 in
    s ∙ ap (λ (i : ℕ). rule_width * i) (first_found _ _ (l.at / rule_width) (omega arith) l.invariant.2 (sym c.is_rule.ensures ∙ c.if-is_rule.true))

pub loop-at-preserved : goal.loop-at-preserved
unfolding rule_place
loop-at-preserved c =
    let l = c.loop-at in
    let s = l.invariant.1 in
    let next : (l.at + rule_width) / rule_width ≡ l.at / rule_width + 1 = omega arith in
    (omega arith, omega arith, rw next (any_more _ _ l.invariant.2 (sym c.is_rule.ensures ∙ c.if-is_rule.false)))

pub returns : goal.returns
unfolding rule_place
returns c =
    let l = c.loop-at in
    let s = l.invariant.1 in
    let e : _ ≡ l.at = omega arith in
    e ∙ s ∙ ap (λ (i : ℕ). rule_width * i) (first-none _ _ (l.at / rule_width) (omega arith) (omega arith) l.invariant.2)
