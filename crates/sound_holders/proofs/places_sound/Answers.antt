use mathlib.Core.Path.{refl, sym, ◌∙◌}
use native.Mathlib.Omega.{arith}
use lib.ListN.{replicate}
use Rattle.laws.proofs.Tests.{all_none, all_more, all_fails}
use Rattle.access.specs.Limits.{max_layers}
use Rattle.sound_domains.proofs.Depths.{depths-none, depths_more}
use Rattle.sound_domains.proofs.Counting.{place_endless}
use Rattle.sound_holders.proofs.places_sound.Goals as goal

pub loop-l-init : goal.loop-l-init
loop-l-init c =
    (all_none _, depths-none _ (replicate max_layers 0) refl)

pub returns-in_default : goal.returns-in_default
returns-in_default c =
    all_fails _ _ c.loop-l.l (omega arith) (place_endless c.args.layers.now c.args.counts.now c.loop-l.l c.in_default.ensures)

pub returns-then-not-place_sound : goal.returns-then-not-place_sound
returns-then-not-place_sound c =
    all_fails _ _ c.loop-l.l (omega arith) (sym c.place_sound.ensures ∙ c.if-not-place_sound.true)

pub loop-l-preserved : goal.loop-l-preserved
loop-l-preserved c =
    let l = c.loop-l in
    let d = c.in-Some.ensures in
    (all_more _ _ l.invariant.0 (sym c.place_sound.ensures ∙ c.if-not-place_sound.false), depths_more _ l.depths l.l l.invariant.1 (omega arith) d.0 d.1)
