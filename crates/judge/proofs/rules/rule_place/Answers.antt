use native.Mathlib.Omega.{arith}
use Rattle.judge.proofs.rules.rule_place.Goals as goal

pub returns : goal.returns
returns c =
    let h = c.rule_start.ensures in omega arith
