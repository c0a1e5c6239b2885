use mathlib.Core.Path.{sym, ◌∙◌}
use Prim.Native.Nat.{◌-◌}
use native.Mathlib.Omega.{arith}
use borrow.Author.Rules.{rules}
use borrow.Author.Tests.{not-true, not-false}
use lib.ListN.{length}
use Rattle.path_lookup.proofs.Steps.{Here, here-start, here_end, here_no_dir, Ends, here-ends, here-long, here_unknown, here_on}
use Rattle.path_lookup.proofs.walk.Goals as goal

pub loop-e-init : goal.loop-e-init
loop-e-init c =
    here-start _ _ _

pub returns-then-from-path : goal.returns-then-from-path
returns-then-from-path c =
    c.arrived.ensures ∙ here_end _ _ _ c.loop-e.invariant c.component_start-from.ensures c.if-from-path.true

pub returns-then-not-is_dir : goal.returns-then-not-is_dir
returns-then-not-is_dir c =
    here_no_dir _ _ _ c.loop-e.invariant c.component_start-from.ensures c.if-from-path.false (sym c.is_dir.ensures ∙ c.if-not-is_dir.true)

pub overflow_sub-to : goal.overflow_sub-to
overflow_sub-to c =
    let ended : Ends c.args.path.now c.loop-e.at c.component_start-from.result c.component_end-to.result = here-ends _ _ _ c.loop-e.invariant c.component_start-from.ensures c.if-from-path.false c.component_end-to.ensures in
    (ended).filled

pub returns-then-to-from-gt-MAX_NAME : goal.returns-then-to-from-gt-MAX_NAME
returns-then-to-from-gt-MAX_NAME c =
    here-long _ _ _ c.loop-e.invariant c.component_start-from.ensures c.if-from-path.false c.component_end-to.ensures
    (sym c.is_dir.ensures ∙ c.if-not-is_dir.false) (omega arith)

pub slice_bounds-step_to-count : goal.slice_bounds-step_to-count
slice_bounds-step_to-count c =
    let ended : Ends c.args.path.now c.loop-e.at c.component_start-from.result c.component_end-to.result = here-ends _ _ _ c.loop-e.invariant c.component_start-from.ensures c.if-from-path.false c.component_end-to.ensures in
    (ended).filled

pub slice_bounds-step_to-start : goal.slice_bounds-step_to-start
slice_bounds-step_to-start c =
    let ended : Ends c.args.path.now c.loop-e.at c.component_start-from.result c.component_end-to.result = here-ends _ _ _ c.loop-e.invariant c.component_start-from.ensures c.if-from-path.false c.component_end-to.ensures in
    (ended).filled

pub slice_bounds-step_to-end : goal.slice_bounds-step_to-end
slice_bounds-step_to-end c =
    let ended : Ends c.args.path.now c.loop-e.at c.component_start-from.result c.component_end-to.result = here-ends _ _ _ c.loop-e.invariant c.component_start-from.ensures c.if-from-path.false c.component_end-to.ensures in
    (ended).inside

pub returns-in_default : goal.returns-in_default
returns-in_default c =
    here_unknown _ _ _ c.loop-e.invariant c.component_start-from.ensures c.if-from-path.false c.component_end-to.ensures
    (sym c.is_dir.ensures ∙ c.if-not-is_dir.false) (omega arith) c.step_to-step.ensures c.in_default.is

pub loop-e-smaller : goal.loop-e-smaller
loop-e-smaller c =
    let ended : Ends c.args.path.now c.loop-e.at c.component_start-from.result c.component_end-to.result = here-ends _ _ _ c.loop-e.invariant c.component_start-from.ensures c.if-from-path.false c.component_end-to.ensures in
    let e = ended in omega arith

pub loop-e-preserved : goal.loop-e-preserved
loop-e-preserved c =
    here_on _ _ _ c.loop-e.invariant c.component_start-from.ensures c.if-from-path.false c.component_end-to.ensures
    (sym c.is_dir.ensures ∙ c.if-not-is_dir.false) (omega arith) c.step_to-step.ensures _ c.in-Entry.is
