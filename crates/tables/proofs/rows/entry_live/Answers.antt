use Rattle.tables.specs.Tables.{live}
use Rattle.tables.proofs.rows.entry_live.Goals as goal

pub returns : goal.returns
unfolding live
returns c =
    rw c.kind_of.ensures
