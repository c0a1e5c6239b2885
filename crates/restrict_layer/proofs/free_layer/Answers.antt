use Prim.Native.Nat.{◌≤◌, ◌-◌}
use mathlib.Core.Path.{◌≡◌, sym, ap, ◌∙◌}
use mathlib.Core.Bool.{false, not}
use native.Mathlib.Omega.{arith}
use Rattle.laws.specs.Tests.{any_below}
use Rattle.laws.proofs.Tests.{any-start, any_more, first_found, first-none}
use Rattle.access.specs.Limits.{max_layers}
use Rattle.tables.specs.Layers.{layer_in_use}
use Rattle.domain_restrict.specs.Restrict.{free_layer}
use Rattle.restrict_layer.proofs.free_layer.Goals as goal

pub loop-l-init : goal.loop-l-init
unfolding free_layer
loop-l-init c =
    (omega arith, any-start _)

pub returns-then-not-layer_in_use : goal.returns-then-not-layer_in_use
unfolding free_layer
returns-then-not-layer_in_use c =
    let l = c.loop-l in first_found _ _ l.l (omega arith) l.invariant.1 (ap not (sym c.layer_in_use.ensures) ∙ (ap not c.if-not-layer_in_use.true))

pub loop-l-preserved : goal.loop-l-preserved
unfolding free_layer
loop-l-preserved c =
    (omega arith, any_more _ _ c.loop-l.invariant.1 (ap not (sym c.layer_in_use.ensures) ∙ (ap not c.if-not-layer_in_use.false)))

pub returns : goal.returns
unfolding free_layer
returns c =
    let l = c.loop-l in first-none _ _ l.l (omega arith) (omega arith) l.invariant.1
