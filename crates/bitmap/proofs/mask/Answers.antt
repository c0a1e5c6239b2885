use native.Mathlib.Omega.{arith}
use Rattle.bitmap.proofs.Masks.{ones_shifted}
use Rattle.bitmap.proofs.mask.Goals as goal

pub returns : goal.returns
returns c =
    ones_shifted c.args.from c.args.count (omega arith)
