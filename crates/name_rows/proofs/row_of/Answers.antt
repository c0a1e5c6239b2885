use borrow.Author.Rules.{rules}
use Rattle.laws.proofs.Cells.{part_cut}
use Rattle.names.specs.Names.{row_at}
use Rattle.name_rows.proofs.row_of.Goals as goal

pub returns : goal.returns
unfolding row_at
returns c =
    part_cut _ _ _ c.row_start-from.result c.smaller-more.result c.row_start-from.ensures c.smaller-more.ensures
