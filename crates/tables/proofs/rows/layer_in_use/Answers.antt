use Rattle.tables.specs.Layers.{layer_in_use}
use Rattle.tables.proofs.rows.layer_in_use.Goals as goal

pub returns : goal.returns
unfolding layer_in_use
returns c =
    rw c.layer_holders.ensures
