-- The invariant: the rows below `i` are counted.
use mathlib.Core.Path.{◌≡◌}
use lib.ListN.{length}
use Rattle.sound_domains.specs.Counting.{count_rows}
use Rattle.sound_holders.proofs.count_rows.Given as goal

abbrev pub invariant-loop-i : goal.invariant-loop-i
invariant-loop-i l = (l.counts ≡ count_rows l.initial.counts l.table l.width l.k l.i) × (length l.counts ≡ length l.initial.counts)
