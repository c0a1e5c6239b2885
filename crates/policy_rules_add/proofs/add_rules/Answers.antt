use mathlib.Core.Path.{◌≡◌, refl, sym, subst, ap, ◌∙◌}
use mathlib.Core.Bool.{true}
use Prim.Native.Nat.{ℕ, ◌-◌, ◌≤◌}
use native.Mathlib.Omega.{arith}
use borrow.Author.Rules.{rules}
use lib.ListN.{length}
use Rattle.laws.specs.Cells.{part}
use Rattle.tables.specs.Tables.{tables}
use Rattle.policy.proofs.Parts.{part-all}
use Rattle.policy_walk.specs.Flat.{flatten}
use Rattle.policy_walk.specs.Steps.{RuleAt, StepIs}
use Rattle.named.specs.Named.{Named, with_names, named_sound}
use Rattle.named.specs.Policy.{add_rules}
use Rattle.policy_rules_add.proofs.Steps.{goes_on, stops, all-added}
use Rattle.policy_rules_add.proofs.add_rules.Goals as goal

pub loop-tag-init : goal.loop-tag-init
loop-tag-init c =
    let f = c.args.part.now in
    (omega arith, refl, c.requires, rw (part-all f))

pub next_rule-step-requires : goal.next_rule-step-requires
next_rule-step-requires c =
    (c.loop-tag.invariant.0, omega arith)

pub shape_of-rulesets-in_default : goal.shape_of-rulesets-in_default
shape_of-rulesets-in_default c =
    let l = c.loop-tag in l.invariant.1

pub returns-in_default : goal.returns-in_default
returns-in_default c =
    let l = c.loop-tag in
    let f = c.args.part.now in
    let e = subst (StepIs c.level_of-level.result f l.at (length f)) c.in_default.is c.next_rule-step.ensures in
    let N : Named = with_names (tables c.args.system.now c.args.entries.now c.args.rulesets.now c.args.layers.now c.args.pool.now c.args.threads.now) c.args.names.now in
    all-added c.args.r _ e ∙ sym l.invariant.3 ∙ ap (λ (k : ℕ). add_rules c.args.r (flatten k f) N) c.level_of-level.ensures

pub slice_bounds-add_rule-count : goal.slice_bounds-add_rule-count
slice_bounds-add_rule-count c =
    let rule-at : let f = c.args.part.now in
    RuleAt c.level_of-level.result f c.loop-tag.at (length f) c.in-Rule.tag c.in-Rule.from c.in-Rule.next = let f = c.args.part.now in
    subst (StepIs c.level_of-level.result f c.loop-tag.at (length f)) c.in-Rule.is c.next_rule-step.ensures in
    let w = rule-at in omega arith

pub slice_bounds-add_rule-start : goal.slice_bounds-add_rule-start
slice_bounds-add_rule-start c =
    let rule-at : let f = c.args.part.now in
    RuleAt c.level_of-level.result f c.loop-tag.at (length f) c.in-Rule.tag c.in-Rule.from c.in-Rule.next = let f = c.args.part.now in
    subst (StepIs c.level_of-level.result f c.loop-tag.at (length f)) c.in-Rule.is c.next_rule-step.ensures in
    let w = rule-at in omega arith

pub slice_bounds-add_rule-end : goal.slice_bounds-add_rule-end
slice_bounds-add_rule-end c =
    let rule-at : let f = c.args.part.now in
    RuleAt c.level_of-level.result f c.loop-tag.at (length f) c.in-Rule.tag c.in-Rule.from c.in-Rule.next = let f = c.args.part.now in
    subst (StepIs c.level_of-level.result f c.loop-tag.at (length f)) c.in-Rule.is c.next_rule-step.ensures in
    let w = rule-at in omega arith

pub add_rule-reply-requires : goal.add_rule-reply-requires
add_rule-reply-requires c =
    let l = c.loop-tag in l.invariant.2

pub returns-then-is_refused : goal.returns-then-is_refused
returns-then-is_refused c =
    let rule-at : let f = c.args.part.now in
    RuleAt c.level_of-level.result f c.loop-tag.at (length f) c.in-Rule.tag c.in-Rule.from c.in-Rule.next = let f = c.args.part.now in
    subst (StepIs c.level_of-level.result f c.loop-tag.at (length f)) c.in-Rule.is c.next_rule-step.ensures in
    let w = rule-at in
    let N : Named = with_names (tables c.args.system.now c.args.entries.now c.args.rulesets.now c.args.layers.now c.args.pool.now c.args.threads.now) c.args.names.now in
    stops _ c.args.r _ _ _ c.add_rule-reply.ensures w.tagged w.rules (sym c.is_refused.ensures ∙ c.if-is_refused.true) c.close.ensures
    ∙ sym c.loop-tag.invariant.3 ∙ ap (λ (n : ℕ). add_rules c.args.r (flatten n c.args.part.now) N) c.level_of-level.ensures

pub loop-tag-smaller : goal.loop-tag-smaller
loop-tag-smaller c =
    let rule-at : let f = c.args.part.now in
    RuleAt c.level_of-level.result f c.loop-tag.at (length f) c.in-Rule.tag c.in-Rule.from c.in-Rule.next = let f = c.args.part.now in
    subst (StepIs c.level_of-level.result f c.loop-tag.at (length f)) c.in-Rule.is c.next_rule-step.ensures in
    let w = rule-at in omega arith

pub loop-tag-preserved : goal.loop-tag-preserved
loop-tag-preserved c =
    let rule-at : let f = c.args.part.now in
    RuleAt c.level_of-level.result f c.loop-tag.at (length f) c.in-Rule.tag c.in-Rule.from c.in-Rule.next = let f = c.args.part.now in
    subst (StepIs c.level_of-level.result f c.loop-tag.at (length f)) c.in-Rule.is c.next_rule-step.ensures in
    let w = rule-at in (
      w.inside,
      search rules,
      c.add_rule-reply.ensures.still,
      c.loop-tag.invariant.3 ∙ goes_on _ c.args.r _ _ _ c.add_rule-reply.ensures w.tagged w.rules (sym c.is_refused.ensures ∙ c.if-is_refused.false),
    )
