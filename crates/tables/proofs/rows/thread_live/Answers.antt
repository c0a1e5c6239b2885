use Rattle.tables.specs.Tables.{thread_live}
use Rattle.tables.proofs.rows.thread_live.Goals as goal

pub returns : goal.returns
unfolding thread_live
returns c =
    rw c.row_read.ensures
