use mathlib.Core.Path.{◌≡◌, refl, sym, ◌∙◌}
use Prim.Native.Nat.{◌-◌}
use native.Mathlib.Omega.{arith}
use lib.ListN.{length}
use Rattle.names.specs.Paths.{starts_at, component_start}
use Rattle.path.proofs.Places.{from, from_here, from_on, from_end}
use Rattle.path.proofs.component_start.Goals as goal

pub loop-i-init : goal.loop-i-init
unfolding component_start
loop-i-init c = refl

pub returns-then-starts_at : goal.returns-then-starts_at
unfolding component_start
returns-then-starts_at c =
    let l = c.loop-i in sym (from_here _ _ l.i (omega arith) (sym c.starts_at.ensures ∙ c.if-starts_at.true)) ∙ l.invariant

pub loop-i-preserved : goal.loop-i-preserved
unfolding component_start
loop-i-preserved c =
    let l = c.loop-i in sym (from_on _ _ l.i (omega arith) (sym c.starts_at.ensures ∙ c.if-starts_at.false)) ∙ l.invariant

pub returns : goal.returns
unfolding component_start
returns c =
    let l = c.loop-i in sym (from_end _ _ l.i (omega arith)) ∙ l.invariant
