use mathlib.Core.Path.{refl}
use Prim.Native.Nat.{ℕ, ◌<◌}
use native.Mathlib.Omega.{arith}
use Rattle.access.specs.Limits.{max_entries}
use Rattle.sound_names_walk.specs.Walks.{On, here, next, IsWalked}
use Rattle.sound_names_walk.proofs.Walks.{Clear, clear_end, clear_more, same_here, node_in}
use Rattle.sound_names_walk.proofs.walk.Goals as goal

pub loop-at-init : goal.loop-at-init
unfolding IsWalked
loop-at-init c =
    (omega arith, (λ C. C, λ f r. r))

pub returns-then-left-eq0 : goal.returns-then-left-eq0
unfolding IsWalked
returns-then-left-eq0 c =
    λ z. absurd (z refl)

pub is_same_name-requires : goal.is_same_name-requires
unfolding IsWalked
is_same_name-requires c =
    (c.requires.0, (c.requires.1.0.0, c.loop-at.invariant.0))

pub returns-then-is_same_name : goal.returns-then-is_same_name
unfolding IsWalked
returns-then-is_same_name c =
    let l = c.loop-at in
    (l.invariant.1.1 l.at (here c.loop-at-test.true), same_here _ _ c.args.links.now _ _ l.at c.is_same_name.ensures c.if-is_same_name.true)

pub overflow_cast-at : goal.overflow_cast-at
unfolding IsWalked
overflow_cast-at c =
    omega (arith, c.shared_slice_known-in-loop-at-1.given c.loop-at.at)

pub loop-at-preserved : goal.loop-at-preserved
unfolding IsWalked
loop-at-preserved c =
    let l = c.loop-at in (
      node_in _ c.args.links.now (omega arith) c.requires.1.1.1 l.at,
      (λ C. l.invariant.1.0 (clear_more _ _ _ _ _ c.is_same_name.ensures c.if-is_same_name.false refl C), λ f r. l.invariant.1.1 f (next c.loop-at-test.true refl r)),
    )

pub returns : goal.returns
unfolding IsWalked
returns c =
    let l = c.loop-at in λ _. l.invariant.1.0 (clear_end _ _ _ _ _ c.loop-at-test.false)
