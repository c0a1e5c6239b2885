use mathlib.Core.Path.{◌≡◌, sym, ap}
use native.Mathlib.Omega.{arith}
use Rattle.access.specs.Limits.{max_domain}
use Rattle.judge.specs.Domain.{domain}
use Rattle.domain_restrict.specs.Restrict.{is_deep}
use Rattle.domain_restrict.proofs.Depth.{deep, count-end, count_none, count_up}
use Rattle.domain_restrict.proofs.is_deep.Goals as goal

pub loop-n-init : goal.loop-n-init
unfolding is_deep domain
loop-n-init c =
    ap (deep c.args.layers.now max_domain) (sym c.youngest_of-at.ensures)

pub returns-then-at-eq0 : goal.returns-then-at-eq0
unfolding is_deep domain
returns-then-at-eq0 c =
    let l = c.loop-n in count-end _ l.n l.at l.invariant (omega arith) c.if-at-eq0.true

pub loop-n-preserved : goal.loop-n-preserved
unfolding is_deep domain
loop-n-preserved c =
    let l = c.loop-n in count_up _ l.n l.at l.invariant (omega arith) c.if-at-eq0.false c.layer_parent-at.ensures

pub returns : goal.returns
unfolding is_deep domain
returns c =
    let l = c.loop-n in count_none _ l.n l.at l.invariant (omega arith)
