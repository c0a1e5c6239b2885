use mathlib.Core.Path.{◌≡◌, refl, ap, ◌∙◌}
use Prim.Native.Nat.{◌≤◌, ◌-◌}
use native.Mathlib.Omega.{arith}
use lib.ListN.{length}
use Rattle.access.specs.Limits.{max_layers}
use Rattle.domain_end.specs.End.{lowered}
use Rattle.domain_end.proofs.Loops.{lowered_none, lowered_more}
use Rattle.end_release.proofs.lower_firsts.Goals as goal

pub loop-n-init : goal.loop-n-init
loop-n-init c =
    (omega arith, lowered_none _ _ _, refl)

pub loop-n-preserved : goal.loop-n-preserved
loop-n-preserved c =
    let l = c.loop-n in
    let a = c.args in
    (omega arith, lowered_more a.layers.now a.first a.count l.n l.layers _ l.invariant.1 c.lower_one.ensures, c.lower_one.auto.layers ∙ l.invariant.2)

pub shape_of-layers : goal.shape_of-layers
shape_of-layers c =
    c.loop-n.invariant.2

pub returns : goal.returns
returns c =
    let l = c.loop-n in
    let a = c.args in
    let e : l.n ≡ max_layers = omega arith in
    l.invariant.1 ∙ ap (lowered a.layers.now a.first a.count) e
