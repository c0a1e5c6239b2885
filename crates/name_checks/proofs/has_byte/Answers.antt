use mathlib.Core.Path.{refl}
use Prim.Native.Nat.{◌≤◌, ◌-◌}
use native.Mathlib.Omega.{arith}
use borrow.Author.Rules.{rules}
use lib.ListN.{length}
use Rattle.name_checks.proofs.Scans.{Rest, rest_hit, rest-on, rest_end}
use Rattle.name_checks.proofs.has_byte.Goals as goal

pub loop-i-init : goal.loop-i-init
loop-i-init c =
    (omega arith, refl)

pub returns-then-text-i : goal.returns-then-text-i
returns-then-text-i c =
    let l = c.loop-i in rest_hit _ _ l.i l.invariant.1 (omega arith) c.if-text-i.true

pub loop-i-preserved : goal.loop-i-preserved
loop-i-preserved c =
    let l = c.loop-i in (omega arith, rest-on _ _ l.i l.invariant.1 (omega arith) c.if-text-i.false)

pub returns : goal.returns
returns c =
    let l = c.loop-i in rest_end _ _ l.i l.invariant.1 (omega arith)
