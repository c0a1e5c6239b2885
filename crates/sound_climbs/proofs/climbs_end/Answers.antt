use mathlib.Core.Path.{sym, ◌∙◌}
use native.Mathlib.Omega.{arith}
use Rattle.laws.proofs.Tests.{all_none, all_more, all_fails}
use Rattle.sound_objects.proofs.Live.{live_no, live_yes}
use Rattle.sound_objects.proofs.Rows.{free-kind}
use Rattle.sound_tree.proofs.Rows.{all_past, climb_free, climb_live}
use Rattle.sound_tree.proofs.Marks.{known-none, known_same, known_past}
use Rattle.sound_climbs.proofs.climbs_end.Goals as goal
use Rattle.sound_climbs.proofs.climbs_end.Goals.{then-entries-e-ne0+else-not-climb_ends, else-entries-e-ne0}

pub loop-e-init : goal.loop-e-init
loop-e-init c =
    (known-none _, all_none _)

pub climb_ends-requires : goal.climb_ends-requires
climb_ends-requires c =
    let p = c.requires in
    (p.0.0, ((omega arith, live_yes _ _ c.if-entries-e-ne0.true), (p.1, c.loop-e.invariant.0)))

pub returns-then-not-climb_ends : goal.returns-then-not-climb_ends
returns-then-not-climb_ends c =
    all_fails _ _ c.loop-e.e (omega arith) (climb_live _ _ c.if-entries-e-ne0.true ∙ sym c.climb_ends.ensures.0 ∙ c.if-not-climb_ends.true)

pub loop-e-preserved : goal.loop-e-preserved
loop-e-preserved c =
    let l = c.loop-e in
    elim c.if-entries-e-ne0.branch [
      | then-entries-e-ne0+else-not-climb_ends w ↦
          let r = w.if-not-climb_ends.false in
          (known_same _ w.climb_ends.new.marks (w.climb_ends.ensures.1 r) w.marks-is, all_more _ _ l.invariant.1 (climb_live _ _ w.if-entries-e-ne0.true ∙ sym w.climb_ends.ensures.0 ∙ r))
      | else-entries-e-ne0 w ↦
          (known_past _ l.marks l.invariant.0 w.marks-is, all_more _ _ l.invariant.1 (climb_free _ _ (live_no _ _ w.if-entries-e-ne0.false)))
    ]

pub returns : goal.returns
returns c =
    let l = c.loop-e in
    all_past _ _ c.args.end l.e (omega arith) l.invariant.1 (λ j k. climb_free _ j (free-kind _ c.requires.0 j k))
