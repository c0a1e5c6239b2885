use mathlib.Core.Path.{sym, ◌∙◌}
use mathlib.Core.Bool.{false≢true}
use Rattle.laws.proofs.Conditions.{all-is, conditions}
use Rattle.sound_tree.proofs.Rows.{by_parts, parents-live}
use Rattle.sound_entries.proofs.entries_sound.Goals as goal

pub returns-then-not-root_sound : goal.returns-then-not-root_sound
returns-then-not-root_sound c =
    (by_parts _ _ (all-is (search conditions depth 16)), λ h. absurd (false≢true h))

pub returns-then-not-rows_sound : goal.returns-then-not-rows_sound
returns-then-not-rows_sound c =
    (by_parts _ _ (all-is (search conditions depth 16)), λ h. absurd (false≢true h))

pub climbs_end-requires : goal.climbs_end-requires
climbs_end-requires c =
    let p = c.requires.0 in
    (p, parents-live _ _ p.0 (sym c.rows_sound.ensures ∙ c.if-not-rows_sound.false))

pub returns-then-not-climbs_end : goal.returns-then-not-climbs_end
returns-then-not-climbs_end c =
    (by_parts _ _ (all-is (search conditions depth 16)), λ h. absurd (false≢true h))

pub returns : goal.returns
returns c =
    let o = c.objects_sound.ensures in let r = o.0 in (by_parts _ _ (all-is (search conditions depth 16)), o.1)
