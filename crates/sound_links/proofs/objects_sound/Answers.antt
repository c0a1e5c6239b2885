use mathlib.Core.Path.{sym, ◌∙◌}
use mathlib.Core.Bool.{false≢true}
use native.Mathlib.Omega.{arith}
use Rattle.laws.proofs.Tests.{all_none, all_more, all_fails}
use Rattle.sound_objects.proofs.Rows.{free-kind}
use Rattle.sound_objects.proofs.Index.{index_none, index_done}
use Rattle.sound_tree.proofs.Rows.{all_past, links-free}
use Rattle.sound_links.proofs.objects_sound.Goals as goal

pub loop-e-init : goal.loop-e-init
loop-e-init c =
    (all_none _, index_none _ _ _ c.requires.1.0 c.requires.1.1)

pub returns-then-not-add_entry : goal.returns-then-not-add_entry
returns-then-not-add_entry c =
    let l = c.loop-e in
    (all_fails _ _ l.e (omega arith) (sym c.add_entry.ensures.0 ∙ c.if-not-add_entry.true), λ h. absurd (false≢true h))

pub loop-e-preserved : goal.loop-e-preserved
loop-e-preserved c =
    let l = c.loop-e in
    let r = c.if-not-add_entry.false in
    (all_more _ _ l.invariant.0 (sym c.add_entry.ensures.0 ∙ r), c.add_entry.ensures.1 r)

pub returns : goal.returns
returns c =
    let l = c.loop-e in (
      all_past _ _ c.args.end l.e (omega arith) l.invariant.0 (λ j k. sym (links-free _ j (free-kind _ c.requires.0 j k))),
      λ r. index_done _ c.requires.0 (omega arith) (omega arith) l.invariant.1,
    )
