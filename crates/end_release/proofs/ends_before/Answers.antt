use native.Mathlib.Omega.{arith}
use Rattle.domain_end.proofs.Loops.{before_no, before-rest}
use Rattle.end_release.proofs.ends_before.Goals as goal

pub returns-then-at-first : goal.returns-then-at-first
returns-then-at-first c =
    before_no _ _ _ c.if-at-first.true

pub returns : goal.returns
returns c =
    let a = c.args in before-rest a.first a.count a.at (omega arith)
