use Rattle.fs.specs.Against.{refer_against}
use Rattle.fs_layer.proofs.refer_against.Goals as goal

pub returns : goal.returns
unfolding refer_against
returns c =
    cc
