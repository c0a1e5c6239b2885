use borrow.Author.Rules.{rules}
use native.Mathlib.Omega.{arith}
use Rattle.domain_restrict.specs.Restrict.{counted}
use Rattle.restrict_layer.proofs.count_layer.Goals as goal

pub returns : goal.returns
unfolding counted
returns c =
    cc
