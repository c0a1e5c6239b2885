use mathlib.Core.Path.{◌≡◌, refl, sym, ◌∙◌}
use Prim.Native.Nat.{◌-◌}
use native.Mathlib.Omega.{arith}
use lib.ListN.{length}
use Rattle.names.specs.Paths.{component_end}
use Rattle.path.proofs.Places.{from, from_here, from_on, from_end, stops, stops_at, goes_on}
use Rattle.path.proofs.component_end.Goals as goal

pub loop-i-init : goal.loop-i-init
unfolding component_end
loop-i-init c = refl

pub returns-then-path-i-eq-SLASH : goal.returns-then-path-i-eq-SLASH
unfolding component_end
returns-then-path-i-eq-SLASH c =
    let l = c.loop-i in
    let p = c.args.path.now in
    sym (from_here (stops p) _ l.i (omega arith) (stops_at p l.i (omega arith) c.if-path-i-eq-SLASH.true)) ∙ l.invariant

pub loop-i-preserved : goal.loop-i-preserved
unfolding component_end
loop-i-preserved c =
    let l = c.loop-i in
    let p = c.args.path.now in
    sym (from_on (stops p) _ l.i (omega arith) (goes_on p l.i (omega arith) c.if-path-i-eq-SLASH.false)) ∙ l.invariant

pub returns : goal.returns
unfolding component_end
returns c =
    let l = c.loop-i in sym (from_end (stops c.args.path.now) _ l.i (omega arith)) ∙ l.invariant
