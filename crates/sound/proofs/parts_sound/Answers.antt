use mathlib.Core.Bool.{not}
use mathlib.Core.Path.{refl, ap}
use native.Mathlib.Omega.{arith}
use Rattle.laws.proofs.Conditions.{all-is, conditions, last, holds_if_not, fails_if_not}
use Rattle.tables.proofs.Lengths.{lengths}
use Rattle.sound_objects.proofs.Rows.{rows_end}
use Rattle.sound.specs.Sound.{parts_sound}
use Rattle.sound.proofs.parts_sound.Goals as goal

pub bounds-system-0 : goal.bounds-system-0
unfolding parts_sound
bounds-system-0 c =
    let w = lengths _ c.requires in omega (arith, w.system)

pub bounds-system-1 : goal.bounds-system-1
unfolding parts_sound
bounds-system-1 c =
    let w = lengths _ c.requires in omega (arith, w.system)

pub bounds-system-2 : goal.bounds-system-2
unfolding parts_sound
bounds-system-2 c =
    let w = lengths _ c.requires in omega (arith, w.system)

pub system_sound-requires : goal.system_sound-requires
unfolding parts_sound
system_sound-requires c =
    let w = lengths _ c.requires in w.system

pub returns-then-not-system_sound : goal.returns-then-not-system_sound
unfolding parts_sound
returns-then-not-system_sound c =
    all-is (search conditions depth 16)

pub level_zero_sound-requires : goal.level_zero_sound-requires
unfolding parts_sound
level_zero_sound-requires c =
    let w = lengths _ c.requires in (w.system, w.rulesets)

pub returns-then-not-level_zero_sound : goal.returns-then-not-level_zero_sound
unfolding parts_sound
returns-then-not-level_zero_sound c =
    all-is (search conditions depth 16)

pub domains_sound-requires : goal.domains_sound-requires
unfolding parts_sound
domains_sound-requires c =
    let w = lengths _ c.requires in (w.layers, w.threads)

pub returns-then-not-domains_sound : goal.returns-then-not-domains_sound
unfolding parts_sound
returns-then-not-domains_sound c =
    all-is (search conditions depth 16)

pub rows_used-end-requires : goal.rows_used-end-requires
unfolding parts_sound
rows_used-end-requires c =
    let w = lengths _ c.requires in w.entries

pub entries_sound-requires : goal.entries_sound-requires
unfolding parts_sound
entries_sound-requires c =
    let w = lengths _ c.requires in (rows_end _ w.entries c.rows_used-end.ensures, (refl, refl))

pub returns-then-not-entries_sound : goal.returns-then-not-entries_sound
unfolding parts_sound
returns-then-not-entries_sound c =
    let r = c.entries_sound.ensures.0 in all-is (search conditions depth 16)

pub rulesets_sound-requires : goal.rulesets_sound-requires
unfolding parts_sound
rulesets_sound-requires c =
    let w = lengths _ c.requires in
    let i = c.entries_sound.ensures.1 (c.if-not-entries_sound.false) in
    (w.rulesets, (w.entries, i))

pub returns-then-not-rulesets_sound : goal.returns-then-not-rulesets_sound
unfolding parts_sound
returns-then-not-rulesets_sound c =
    all-is
    (holds_if_not c.system_sound.ensures (ap not c.if-not-system_sound.false)
    (holds_if_not c.level_zero_sound.ensures (ap not c.if-not-level_zero_sound.false)
    (holds_if_not c.domains_sound.ensures (ap not c.if-not-domains_sound.false)
    (holds_if_not c.entries_sound.ensures.0 (ap not c.if-not-entries_sound.false) (fails_if_not c.rulesets_sound.ensures (ap not c.if-not-rulesets_sound.true))))))

pub bounds-system-3 : goal.bounds-system-3
unfolding parts_sound
bounds-system-3 c =
    let w = lengths _ c.requires in omega (arith, w.system)

pub layers_sound-requires : goal.layers_sound-requires
unfolding parts_sound
layers_sound-requires c =
    let w = lengths _ c.requires in
    let i = c.entries_sound.ensures.1 (c.if-not-entries_sound.false) in
    (w.layers, (w.pool, (w.entries, i)))

pub returns : goal.returns
unfolding parts_sound
returns c =
    all-is
    (holds_if_not c.system_sound.ensures (ap not c.if-not-system_sound.false)
    (holds_if_not c.level_zero_sound.ensures (ap not c.if-not-level_zero_sound.false)
    (holds_if_not c.domains_sound.ensures (ap not c.if-not-domains_sound.false)
    (holds_if_not c.entries_sound.ensures.0 (ap not c.if-not-entries_sound.false)
    (holds_if_not c.rulesets_sound.ensures (ap not c.if-not-rulesets_sound.false) (last c.layers_sound.ensures))))))
