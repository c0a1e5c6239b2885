-- The invariant: the marks are right, and every climb from a live entry below `e` ends.
use mathlib.Core.Path.{◌≡◌}
use mathlib.Core.Bool.{true}
use Rattle.laws.specs.Tests.{all_below}
use Rattle.sound_tree.specs.Fast.{live_climb_ends, Known}
use Rattle.sound_climbs.proofs.climbs_end.Given as goal

abbrev pub invariant-loop-e : goal.invariant-loop-e
invariant-loop-e l = Known l.entries l.marks l.e × (all_below (live_climb_ends l.entries) l.e ≡ true)
