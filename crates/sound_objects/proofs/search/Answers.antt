use mathlib.Core.Path.{◌≡◌, refl, sym, ap}
use Prim.Native.Nat.{ℕ, ◌+◌, ◌-◌}
use native.Mathlib.Omega.{arith}
use lib.ListN.{get_or}
use Rattle.sound_objects.specs.Objects.{key_of, key_below, here, next, ends, goes}
use Rattle.sound_objects.proofs.Trees.{child_node, child_after}
use Rattle.sound_objects.proofs.search.Goals as goal

pub loop-object-init : goal.loop-object-init
unfolding key_of key_below
loop-object-init c =
    (c.requires.1.1, (λ to r. r, λ p r. r))

pub returns-then-entries-f : goal.returns-then-entries-f
unfolding key_of key_below
returns-then-entries-f c =
    let l = c.loop-object.invariant in
    let e : c.loop-object.at - 1 + 1 ≡ c.loop-object.at = omega arith in
    (omega arith, rw e (l.1.0 _ (here l.0.0 c.if-entries-f.true)))

pub returns-then-at-eq0 : goal.returns-then-at-eq0
unfolding key_of key_below
returns-then-at-eq0 c =
    let l = c.loop-object.invariant in
    let r = c.child_of-cell.ensures in
    (r.1, l.1.1 _ (ends l.0.0 c.if-entries-f.false r.0 c.if-at-eq0.true))

pub loop-object-smaller : goal.loop-object-smaller
unfolding key_of key_below
loop-object-smaller c =
    let t = c.requires.1.0 in
    let q = ap (λ (i : ℕ). get_or c.args.links.now i 0) c.child_of-cell.ensures.0 in
    let h = child_after t (c.loop-object.at - 1) c.loop-object.key (sym q) c.if-at-eq0.false in
    let g = (child_node _ c.args.links.now t.nodes c.child_of-cell.result refl c.if-at-eq0.false).0 in
    omega arith

pub loop-object-preserved : goal.loop-object-preserved
unfolding key_of key_below
loop-object-preserved c =
    let t = c.requires.1.0 in
    let q = sym (ap (λ (i : ℕ). get_or c.args.links.now i 0) c.child_of-cell.ensures.0) in (
      (c.if-at-eq0.false, (child_node _ c.args.links.now t.nodes c.child_of-cell.result refl c.if-at-eq0.false).0),
      (
        λ to r. c.loop-object.invariant.1.0 to (next c.loop-object.invariant.0.0 c.if-entries-f.false q r),
        λ p r. c.loop-object.invariant.1.1 p (goes c.loop-object.invariant.0.0 c.if-entries-f.false q r),
      ),
    )
