use Rattle.tables.specs.Layers.{is_open}
use Rattle.tables.proofs.rows.ruleset_open.Goals as goal

pub returns : goal.returns
unfolding is_open
returns c =
    cc
