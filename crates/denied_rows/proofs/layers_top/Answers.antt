use mathlib.Core.Path.{◌≡◌, refl, sym, ◌∙◌}
use native.Mathlib.Omega.{arith}
use Rattle.denied_rows.specs.Rows.{top_below, top_of}
use Rattle.denied_rows.proofs.Kept.{top_found, top_down, top_none}
use Rattle.denied_rows.proofs.layers_top.Goals as goal

pub returns-then-layer_in_use : goal.returns-then-layer_in_use
unfolding top_of
returns-then-layer_in_use c =
    let l = c.loop-n in
    top_found _ l.n (omega arith) c.layer_in_use.ensures c.if-layer_in_use.true ∙ sym l.invariant

pub loop-n-init : goal.loop-n-init
unfolding top_of
loop-n-init c = refl

pub loop-n-preserved : goal.loop-n-preserved
unfolding top_of
loop-n-preserved c =
    let l = c.loop-n in
    l.invariant ∙ top_down _ l.n (omega arith) c.layer_in_use.ensures c.if-layer_in_use.false

pub returns : goal.returns
unfolding top_of
returns c =
    let l = c.loop-n in top_none _ l.n (omega arith) ∙ sym l.invariant
