use mathlib.Core.Path.{◌≡◌, refl, ◌∙◌}
use Prim.Native.Nat.{◌≤◌, ◌-◌}
use native.Mathlib.Omega.{arith}
use borrow.Author.Rules.{rules}
use lib.ListN.{length}
use Rattle.laws.proofs.Tests.{all_none}
use Rattle.access.specs.Limits.{max_entries}
use Rattle.sound_names_chains.specs.Chains.{IsTold}
use Rattle.sound_names_chains.proofs.Index.{index_none}
use Rattle.sound_names_chains.proofs.Told.{Done, done_more, done_all, done_rows, done_fails}
use Rattle.sound_names_chains.proofs.names_by_chains.Goals as goal

pub loop-e-init : goal.loop-e-init
unfolding IsTold
loop-e-init c =
    ((omega arith, (all_none _, λ z. (all_none _, index_none _ _ c.requires.1.0 c.requires.1.1))), (refl, refl))

pub add_entry-tested-requires : goal.add_entry-tested-requires
unfolding IsTold
add_entry-tested-requires c =
    (c.requires.0, (omega arith, (c.loop-e.invariant.0.1.0, λ z. (c.loop-e.invariant.0.1.1 z).1)))

pub loop-e-preserved : goal.loop-e-preserved
unfolding IsTold
loop-e-preserved c = (
  (omega arith, done_more _ _ c.loop-e.e c.loop-e.invariant.0.1 c.add_entry-tested.ensures c.in-Left.is),
  (c.add_entry-tested.auto.heads ∙ c.loop-e.invariant.1.0, c.add_entry-tested.auto.links ∙ c.loop-e.invariant.1.1),
)

pub shape_of-heads-in-Unsound : goal.shape_of-heads-in-Unsound
unfolding IsTold
shape_of-heads-in-Unsound c =
    c.add_entry-tested.auto.heads ∙ c.loop-e.invariant.1.0

pub shape_of-links-in-Unsound : goal.shape_of-links-in-Unsound
unfolding IsTold
shape_of-links-in-Unsound c =
    c.add_entry-tested.auto.links ∙ c.loop-e.invariant.1.1

pub returns-in-Unsound : goal.returns-in-Unsound
unfolding IsTold
returns-in-Unsound c =
    done_fails _ _ c.add_entry-tested.new.heads c.add_entry-tested.new.links c.loop-e.left c.loop-e.e (omega arith) c.add_entry-tested.ensures c.in-Unsound.is

pub shape_of-heads-then-left-eq0 : goal.shape_of-heads-then-left-eq0
unfolding IsTold
shape_of-heads-then-left-eq0 c =
    c.loop-e.invariant.1.0

pub shape_of-links-then-left-eq0 : goal.shape_of-links-then-left-eq0
unfolding IsTold
shape_of-links-then-left-eq0 c =
    c.loop-e.invariant.1.1

pub returns-then-left-eq0 : goal.returns-then-left-eq0
unfolding IsTold
returns-then-left-eq0 c =
    let l = c.loop-e in done_rows _ _ l.e (omega arith) (omega arith) l.invariant.0.1

pub shape_of-heads : goal.shape_of-heads
unfolding IsTold
shape_of-heads c =
    c.loop-e.invariant.1.0

pub shape_of-links : goal.shape_of-links
unfolding IsTold
shape_of-links c =
    c.loop-e.invariant.1.1

pub returns : goal.returns
unfolding IsTold
returns c =
    let l = c.loop-e in
    done_all _ _ l.e c.requires.0 (omega arith) (omega arith) c.if-left-eq0.false l.invariant.0.1
