use mathlib.Core.Path.{◌≡◌, sym}
use native.Mathlib.Omega.{arith}
use lib.Dec.{eqb}
use borrow.Author.Tests.{eq-eqb, ne_eqb}
use Rattle.laws.specs.Tests.{any, elem}
use Rattle.access.specs.Limits.{max_domain}
use Rattle.judge.specs.Domain.{chain}
use Rattle.task.proofs.Walks.{elem-any, walk_end, walk_none, walk_hit, walk_up}
use Rattle.task.proofs.in_domain.Goals as goal

pub loop-n-init : goal.loop-n-init
loop-n-init c =
    elem-any _ _

pub returns-then-at-eq0 : goal.returns-then-at-eq0
returns-then-at-eq0 c =
    let l = c.loop-n in walk_end _ _ l.n l.at l.invariant c.if-at-eq0.true

pub returns-then-at-l : goal.returns-then-at-l
returns-then-at-l c =
    let l = c.loop-n in walk_hit _ _ l.n l.at l.invariant c.if-at-eq0.false (omega arith) (eq-eqb _ _ (sym c.if-at-l.true))

pub loop-n-preserved : goal.loop-n-preserved
loop-n-preserved c =
    let l = c.loop-n in
    walk_up _ _ l.n l.at l.invariant c.if-at-eq0.false (omega arith) (ne_eqb _ _ (λ z. c.if-at-l.false (sym z))) c.layer_parent-at.ensures

pub returns : goal.returns
returns c =
    let l = c.loop-n in walk_none _ _ l.n l.at l.invariant (omega arith)
