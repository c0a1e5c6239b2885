use Rattle.tables.specs.Tables.{is_dir}
use Rattle.tables.proofs.rows.is_dir.Goals as goal

pub returns : goal.returns
unfolding is_dir
returns c =
    rw c.kind_of.ensures
