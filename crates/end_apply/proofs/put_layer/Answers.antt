use mathlib.Core.Path.{◌≡◌, refl, ◌∙◌}
use Prim.Native.Nat.{◌≤◌}
use native.Mathlib.Omega.{arith}
use lib.ListN.{length}
use Rattle.access.specs.Limits.{max_domain}
use Rattle.tables.specs.Tables.{tables}
use Rattle.domain_end.specs.End.{put_layer}
use Rattle.domain_end.proofs.Loops.{put_none, put_end, put_held, put_last}
use Rattle.end_apply.proofs.put_layer.Goals as goal

pub loop-n-init : goal.loop-n-init
loop-n-init c =
    (omega arith, refl, refl, refl, refl)

pub shape_of-system-then-at-eq0 : goal.shape_of-system-then-at-eq0
shape_of-system-then-at-eq0 c =
    c.loop-n.invariant.2

pub shape_of-layers-then-at-eq0 : goal.shape_of-layers-then-at-eq0
shape_of-layers-then-at-eq0 c =
    c.loop-n.invariant.3

pub shape_of-pool-then-at-eq0 : goal.shape_of-pool-then-at-eq0
shape_of-pool-then-at-eq0 c =
    c.loop-n.invariant.4

pub returns-then-at-eq0 : goal.returns-then-at-eq0
returns-then-at-eq0 c =
    let l = c.loop-n in put_end l.n _ l.at c.if-at-eq0.true ∙ l.invariant.1

pub shape_of-system-then-held-ne1 : goal.shape_of-system-then-held-ne1
shape_of-system-then-held-ne1 c =
    c.loop-n.invariant.2

pub shape_of-layers-then-held-ne1 : goal.shape_of-layers-then-held-ne1
shape_of-layers-then-held-ne1 c =
    c.row_write.auto.t ∙ c.loop-n.invariant.3

pub shape_of-pool-then-held-ne1 : goal.shape_of-pool-then-held-ne1
shape_of-pool-then-held-ne1 c =
    c.loop-n.invariant.4

pub returns-then-held-ne1 : goal.returns-then-held-ne1
returns-then-held-ne1 c =
    let l = c.loop-n in
    put_held l.n _ l.at (omega arith) c.if-at-eq0.false c.layer_holders-held.ensures c.if-held-ne1.true c.minus.ensures c.row_write.ensures ∙ l.invariant.1

pub loop-n-preserved : goal.loop-n-preserved
loop-n-preserved c =
    let l = c.loop-n in (
      omega arith,
      put_last l.n _ l.at (omega arith) c.if-at-eq0.false c.layer_holders-held.ensures c.if-held-ne1.false c.layer_parent-at.ensures c.release.ensures ∙ l.invariant.1,
      c.release.auto.system ∙ l.invariant.2,
      c.release.auto.layers ∙ l.invariant.3,
      c.release.auto.pool ∙ l.invariant.4,
    )

pub shape_of-system : goal.shape_of-system
shape_of-system c =
    c.loop-n.invariant.2

pub shape_of-layers : goal.shape_of-layers
shape_of-layers c =
    c.loop-n.invariant.3

pub shape_of-pool : goal.shape_of-pool
shape_of-pool c =
    c.loop-n.invariant.4

pub returns : goal.returns
returns c =
    let l = c.loop-n in put_none l.n _ l.at (omega arith) ∙ l.invariant.1
