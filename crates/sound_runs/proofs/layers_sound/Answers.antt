use mathlib.Core.Path.{sym, ◌∙◌}
use Rattle.laws.proofs.Conditions.{all-is, conditions, fails_by, holds_by, holds_le}
use Rattle.sound_layers.specs.Layers.{layers_sound}
use Rattle.sound_layers.proofs.Records.{records_placed}
use Rattle.sound_runs.proofs.layers_sound.Goals as goal

pub returns-then-not-layers_counted : goal.returns-then-not-layers_counted
unfolding layers_sound
returns-then-not-layers_counted c =
    all-is (search conditions depth 16)

pub returns-then-taken : goal.returns-then-taken
unfolding layers_sound
returns-then-taken c =
    all-is (search conditions depth 16)

pub returns-then-not-each_sound : goal.returns-then-not-each_sound
unfolding layers_sound
returns-then-not-each_sound c =
    all-is (search conditions depth 16)

pub runs_sound-requires : goal.runs_sound-requires
unfolding layers_sound
runs_sound-requires c =
    let a = c.args in (
      c.requires.0,
      -- the records passed, so the runs are placed
      records_placed a.entries.now a.next a.level a.layers.now a.pool.now a.taken c.if-taken.false (sym c.each_sound.ensures ∙ c.if-not-each_sound.false),
    )

pub returns-then-not-runs_sound : goal.returns-then-not-runs_sound
unfolding layers_sound
returns-then-not-runs_sound c =
    all-is (search conditions depth 16)

pub pool_filled-requires : goal.pool_filled-requires
unfolding layers_sound
pool_filled-requires c =
    let a = c.args in (
      c.requires.0,
      -- the records passed, so the runs are placed
      records_placed a.entries.now a.next a.level a.layers.now a.pool.now a.taken c.if-taken.false (sym c.each_sound.ensures ∙ c.if-not-each_sound.false),
    )

pub returns-then-not-pool_filled : goal.returns-then-not-pool_filled
unfolding layers_sound
returns-then-not-pool_filled c =
    all-is
    (holds_by c.layers_counted.ensures c.if-not-layers_counted.false
    (holds_le c.if-taken.false
    (holds_by c.each_sound.ensures c.if-not-each_sound.false
    (holds_by c.runs_sound.ensures c.if-not-runs_sound.false (fails_by c.pool_filled.ensures c.if-not-pool_filled.true)))))

pub returns : goal.returns
unfolding layers_sound
returns c =
    all-is (search conditions depth 16)
