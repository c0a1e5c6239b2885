use native.Mathlib.Omega.{arith}
use Rattle.verdict.proofs.Denials.{crossed-none, crossed-some}
use Rattle.verdict.proofs.crossed_at.Goals as goal

pub returns-then-k-eq0 : goal.returns-then-k-eq0
returns-then-k-eq0 c =
    crossed-none _ _ c.if-k-eq0.true

pub returns : goal.returns
returns c =
    crossed-some _ _ c.if-k-eq0.false
