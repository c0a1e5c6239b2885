-- The invariant: the run of every layer below `l` is sound, and the flags are those of these runs.
use mathlib.Core.Path.{◌≡◌}
use mathlib.Core.Bool.{true}
use lib.ListN.{length}
use Rattle.laws.specs.Tests.{all_below}
use Rattle.sound_layers.specs.Layers.{run_sound}
use Rattle.sound_layers.proofs.Runs.{Marked}
use Rattle.sound_runs.proofs.runs_sound.Given as goal

abbrev pub invariant-loop-l : goal.invariant-loop-l
invariant-loop-l l = (all_below (run_sound l.layers) l.l ≡ true) × (length l.taken ≡ 16) × Marked l.layers l.taken l.l
