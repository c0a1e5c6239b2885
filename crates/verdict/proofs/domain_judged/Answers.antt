use mathlib.Core.Path.{◌≡◌, refl, sym, ◌∙◌}
use Prim.Native.Nat.{max}
use native.Mathlib.Omega.{arith}
use borrow.Author.Tests.{not-true, not-false, eqb-false}
use Rattle.access.specs.Limits.{max_domain}
use Rattle.judge.specs.Domain.{chain}
use Rattle.judge.specs.Read.{largest}
use Rattle.verdict.specs.Denial.{denied_by, crossed_by, read_by, denial}
use Rattle.verdict.proofs.Denials.{loop_end, loop_none, loop_hit, loop_up, read-end, read_none, read_more, read_all, denied_most}
use Rattle.verdict.proofs.domain_judged.Goals as goal

pub loop-n-init : goal.loop-n-init
loop-n-init c =
    (refl, omega arith)

pub returns-then-at-eq0 : goal.returns-then-at-eq0
returns-then-at-eq0 c =
    let l = c.loop-n in record { denial = loop_end _ _ _ l.k l.set l.n l.at l.invariant.0 c.if-at-eq0.true c.crossed_at.ensures; read = read-end _ _ l.read l.n l.at l.invariant.1 c.if-at-eq0.true }

pub returns-then-not-is_empty : goal.returns-then-not-is_empty
returns-then-not-is_empty c =
    let l = c.loop-n in
    let some = c.if-not-is_empty.true in record {
      denial = loop_hit _ _ _ l.k l.set l.n l.at l.invariant.0 c.if-at-eq0.false (omega arith) c.layer_holds-held.ensures.denied c.is_empty.ensures some;
      read = read_all _ _ l.read l.n l.at l.invariant.1 c.if-at-eq0.false (omega arith) c.layer_holds-held.ensures.read c.larger-read.ensures
          (denied_most _ _ _ _ _ (λ z. eqb-false _ 0 (sym c.is_empty.ensures ∙ some) (c.layer_holds-held.ensures.denied ∙ z)));
    }

pub loop-n-preserved : goal.loop-n-preserved
loop-n-preserved c =
    let l = c.loop-n in (
      loop_up _ _ _ l.k l.set l.n l.at l.invariant.0 c.if-at-eq0.false (omega arith) c.layer_holds-held.ensures.denied c.is_empty.ensures (c.if-not-is_empty.false) c.layer_holds-held.ensures.crossed c.kept_set-set.ensures c.kept_at-k.ensures c.layer_parent-at.ensures,
      read_more _ _ l.read l.n l.at l.invariant.1 c.if-at-eq0.false (omega arith) c.layer_holds-held.ensures.read c.larger-read.ensures c.layer_parent-at.ensures,
    )

pub returns : goal.returns
returns c =
    let l = c.loop-n in record { denial = loop_none _ _ _ l.k l.set l.n l.at l.invariant.0 (omega arith) c.crossed_at-2.ensures; read = read_none _ _ l.read l.n l.at l.invariant.1 (omega arith) }
