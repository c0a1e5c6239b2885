use borrow.Author.Rules.{rules}
use Rattle.sound_layers.specs.Layers.{pool_rest}
use Rattle.sound_runs.proofs.pool_rest.Goals as goal

pub returns : goal.returns
unfolding pool_rest
returns c = search rules
