use Rattle.std.proofs.Common.{length, ◌-◌, ◌≤◌}
use Rattle.fresh_cases.proofs.write.cells.Given as goal

abbrev pub invariant-loop-i : goal.invariant-loop-i
invariant-loop-i g l = l.i ≤ length l.t

abbrev pub decreases-loop-i : goal.decreases-loop-i
decreases-loop-i g l = length l.t - l.i
