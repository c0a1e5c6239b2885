use mathlib.Core.Path.{◌≡◌, ap}
use Prim.Native.Nat.{ℕ, ◌≤◌, ◌<◌, ◌-◌}
use native.Mathlib.Omega.{arith}
use borrow.Author.Rules.{rules}
use mathlib.Core.List.{List}
use lib.Dec.{eqb}
use lib.ListN.{length, get_or}
use borrow.Author.Tests.{eqb-true, eqb-false}
use Rattle.laws.proofs.Bools.{split}
use Rattle.name_rows.proofs.Bytes.{differ, agree_all}
use Rattle.name_rows.proofs.same_bytes.Goals as goal

pub returns-then-a-b : goal.returns-then-a-b
returns-then-a-b c =
    differ _ _ (λ e. let w = ap length e in omega arith)

pub loop-i-init : goal.loop-i-init
loop-i-init c =
    (omega arith, omega arith, λ j h. absurd (omega arith))

pub returns-then-a-i : goal.returns-then-a-i
returns-then-a-i c =
    differ _ _ (λ e. c.if-a-i.true (ap (λ (l : List ℕ). get_or l c.loop-i.i 0) e))

pub loop-i-preserved : goal.loop-i-preserved
loop-i-preserved c =
    let l = c.loop-i in (omega arith, l.invariant.1, λ j h. split (eqb j l.i) (λ q. rw (eqb-true j l.i q) c.if-a-i.false) (λ q. l.invariant.2 j (let d = eqb-false j l.i q in omega arith)))

pub returns : goal.returns
returns c =
    let l = c.loop-i in agree_all _ _ l.invariant.1 (λ j h. l.invariant.2 j (omega arith))
