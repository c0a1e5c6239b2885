use mathlib.Core.Path.{◌≡◌, refl}
use native.Mathlib.Omega.{arith}
use Rattle.tree.specs.Entries.{above, is_above}
use Rattle.tree.proofs.Above.{climb_hit, climb_root, climb_up, climb_end}
use Rattle.tree.proofs.entries.is_above.Goals as goal

pub returns-then-at-a : goal.returns-then-at-a
returns-then-at-a c =
    let l = c.loop-n in climb_hit _ _ l.n l.at l.invariant c.if-at-a.true

pub returns-then-at-eq0 : goal.returns-then-at-eq0
returns-then-at-eq0 c =
    let l = c.loop-n in climb_root _ _ l.n l.at l.invariant c.if-at-a.false c.if-at-eq0.true

pub loop-n-preserved : goal.loop-n-preserved
loop-n-preserved c =
    let l = c.loop-n in
    climb_up _ _ l.n l.at l.invariant (omega arith) c.if-at-a.false c.if-at-eq0.false c.parent_of-at.ensures

pub returns : goal.returns
returns c =
    let l = c.loop-n in climb_end _ _ l.n l.at l.invariant (omega arith)
