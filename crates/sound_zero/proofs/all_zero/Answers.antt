use mathlib.Core.Path.{sym, ap, ◌∙◌}
use native.Mathlib.Omega.{arith}
use Rattle.laws.specs.Cells.{zeros}
use Rattle.sound_zero.proofs.Blocks.{block_fails, zeros-rest}
use Rattle.sound_zero.proofs.all_zero.Goals as goal

pub returns-then-not-block_zero : goal.returns-then-not-block_zero
returns-then-not-block_zero c =
    block_fails _ _ c.as_chunks.ensures.front c.loop-block.block-index (omega arith) (sym c.block_zero.ensures ∙ c.if-not-block_zero.true)

pub returns : goal.returns
returns c =
    c.all_zero.ensures ∙ ap zeros c.as_chunks.ensures.back ∙ zeros-rest _ _ c.as_chunks.ensures.front (λ k h. c.loop-block.invariant k (omega arith))
