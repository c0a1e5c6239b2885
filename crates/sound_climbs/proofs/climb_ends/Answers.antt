use mathlib.Core.Path.{◌≡◌, refl}
use Prim.Native.Nat.{◌+◌, ◌-◌}
use native.Mathlib.Omega.{arith}
use Rattle.access.specs.Limits.{max_entries}
use Rattle.sound_tree.proofs.Marks.{rest_up, rest_root, rest_end, marking_more, marking_met, marking_done}
use Rattle.sound_climbs.proofs.climb_ends.Goals as goal

pub returns-then-at-eq0 : goal.returns-then-at-eq0
returns-then-at-eq0 c =
    let l = c.loop in
    let n = max_entries - l.counter in
    let q = rest_root _ _ n l.at l.invariant.0 c.if-at-eq0.true in
    (q, marking_done _ _ l.marks l.at l.invariant.1.1 q)

pub returns-then-mark-ne0 : goal.returns-then-mark-ne0
returns-then-mark-ne0 c =
    let l = c.loop in
    let n = max_entries - l.counter in
    let q = marking_met _ _ l.marks l.at l.invariant.1.1 n l.invariant.0 c.if-mark-ne0.true in
    (q, marking_done _ _ l.marks l.at l.invariant.1.1 q)

pub loop-preserved : goal.loop-preserved
loop-preserved c =
    let l = c.loop in
    let n = max_entries - l.counter in
    let e : n - 1 ≡ max_entries - (l.counter + 1) = omega arith in (
      rw e at (rest_up _ _ n l.at l.invariant.0 c.requires.0 c.if-at-eq0.false (omega arith) refl),
      (c.requires.1.1.0 l.at l.invariant.1.0.1, marking_more _ _ l.marks l.at l.invariant.1.1 l.invariant.1.0.0 c.if-at-eq0.false l.invariant.0.1),
    )

pub returns : goal.returns
returns c =
    let l = c.loop in
    let n = max_entries - l.counter in
    let q = rest_end _ _ n l.at l.invariant.0 (omega arith) in
    (q, marking_done _ _ l.marks l.at l.invariant.1.1 q)
