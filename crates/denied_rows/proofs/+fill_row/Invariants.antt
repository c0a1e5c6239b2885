-- The measure is the number of steps left.
use Rattle.denied_rows.proofs.+fill_row.Given as goal

abbrev pub decreases-fill_row : goal.decreases-fill_row
decreases-fill_row l = l.left
