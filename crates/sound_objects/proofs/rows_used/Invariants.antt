-- The invariant: the blocks from `n` on are free.
use mathlib.Core.Path.{◌≡◌}
use Rattle.sound_objects.specs.Rows.{blocks, used_blocks}
use Rattle.sound_objects.proofs.rows_used.Given as goal

abbrev pub invariant-loop-n : goal.invariant-loop-n
invariant-loop-n l = used_blocks l.entries blocks ≡ used_blocks l.entries l.n
