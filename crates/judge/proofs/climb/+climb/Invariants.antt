-- The measure is the number of climbs left.
use Rattle.judge.proofs.climb.+climb.Given as goal

abbrev pub decreases-climb : goal.decreases-climb
decreases-climb l = l.left
