use Rattle.sound_zero.proofs.Blocks.{block}
use Rattle.sound_zero.proofs.block_zero.Goals as goal

pub returns : goal.returns
returns c =
    block c.args.block.now c.told-block
