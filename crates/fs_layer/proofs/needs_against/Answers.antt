use Rattle.fs.specs.Against.{needs_against}
use Rattle.fs_layer.proofs.needs_against.Goals as goal

pub returns : goal.returns
unfolding needs_against
returns c =
    cc
