-- The invariant: what is left of the chain decides, with as many layers fewer.
use mathlib.Core.Path.{◌≡◌, sym, ap}
use native.Mathlib.Omega.{arith}
use Rattle.access.specs.Limits.{max_domain}
use Rattle.judge.specs.Domain.{domain}
use Rattle.domain_restrict.specs.Restrict.{is_deep}
use Rattle.domain_restrict.proofs.Depth.{deep, count-end, count_none, count_up}
use Rattle.domain_restrict.proofs.is_deep.Given as goal

abbrev pub invariant-loop-n : goal.invariant-loop-n
invariant-loop-n l = is_deep l.layers l.threads l.t ≡ deep l.layers l.n l.at

abbrev pub decreases-loop-n : goal.decreases-loop-n
decreases-loop-n l = l.n
