use mathlib.Core.Path.{refl, sym, ◌∙◌}
use native.Mathlib.Omega.{arith}
use Rattle.laws.proofs.Tests.{all_none, all_more, all_fails}
use Rattle.access.specs.Limits.{max_layers}
use Rattle.sound_layers.proofs.Runs.{marked-none, marked_more, run_clear_lem}
use Rattle.sound_runs.proofs.runs_sound.Goals as goal

pub loop-l-init : goal.loop-l-init
loop-l-init c = (all_none _, refl, marked-none c.args.layers.now 16)

pub loop-l-preserved : goal.loop-l-preserved
loop-l-preserved c =
    -- what the flags answer is whether the run is sound
    let told = c.take_run.ensures.answer ∙ run_clear_lem c.args.layers.now c.loop-l.taken c.loop-l.l c.loop-l.invariant.2 max_layers c.requires.1 (omega arith) in (
      all_more _ _ c.loop-l.invariant.0 (sym told ∙ c.if-not-take_run.false),
      c.take_run.auto.words ∙ c.loop-l.invariant.1,
      marked_more c.args.layers.now c.loop-l.taken c.loop-l.l c.loop-l.invariant.2 c.take_run.new.words (c.take_run.ensures.taken c.if-not-take_run.false),
    )

pub returns-then-not-take_run : goal.returns-then-not-take_run
returns-then-not-take_run c =
    let told = c.take_run.ensures.answer ∙ run_clear_lem c.args.layers.now c.loop-l.taken c.loop-l.l c.loop-l.invariant.2 max_layers c.requires.1 (omega arith) in
    all_fails _ _ c.loop-l.l (omega arith) (sym told ∙ c.if-not-take_run.true)
