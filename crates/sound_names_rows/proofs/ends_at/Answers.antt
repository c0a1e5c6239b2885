use mathlib.Core.Path.{refl}
use Prim.Native.Nat.{suc}
use native.Mathlib.Numerals.{add-one}
use native.Mathlib.Omega.{arith}
use lib.ListN.{get_or-eq_default}
use borrow.Author.Rules.{rules}
use Rattle.laws.proofs.Conditions.{all-is, conditions, done, last, holds_eq, holds_ne}
use Rattle.sound_names_rows.specs.Form.{ends_at}
use Rattle.sound_names_rows.proofs.ends_at.Goals as goal

pub returns-then-row-n-eq0 : goal.returns-then-row-n-eq0
unfolding ends_at
returns-then-row-n-eq0 c =
    all-is (search conditions depth 16 fits 20000)

pub returns-then-n-eq-MAX_NAME : goal.returns-then-n-eq-MAX_NAME
unfolding ends_at
returns-then-n-eq-MAX_NAME c =
    let g = get_or-eq_default c.args.row.now 0 {n = suc c.args.n} (omega arith) in
    all-is (holds_ne c.if-row-n-eq0.false (holds_eq g done))

pub returns : goal.returns
unfolding ends_at
returns c =
    all-is (holds_ne c.if-row-n-eq0.false (last (rw (← add-one c.args.n) refl)))
