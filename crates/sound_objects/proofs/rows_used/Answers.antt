use mathlib.Core.Path.{◌≡◌, sym, ap, ◌∙◌}
use Prim.Native.Nat.{ℕ, ◌+◌, ◌-◌, ◌*◌}
use native.Mathlib.Omega.{arith}
use Rattle.sound_objects.specs.Rows.{block_rows}
use Rattle.sound_objects.proofs.Rows.{used-none, used-free, used-here}
use Rattle.sound_objects.proofs.rows_used.Goals as goal

pub returns-then-not-all_zero : goal.returns-then-not-all_zero
returns-then-not-all_zero c =
    let l = c.loop-n in
    let e : l.n - 1 + 1 ≡ l.n = omega arith in
    ap (λ (n : ℕ). block_rows * n) (e ∙ sym (l.invariant ∙ used-here _ l.n (omega arith) (sym c.all_zero.ensures ∙ c.if-not-all_zero.true)))

pub loop-n-preserved : goal.loop-n-preserved
loop-n-preserved c =
    let l = c.loop-n in
    l.invariant ∙ used-free _ l.n (omega arith) (sym c.all_zero.ensures ∙ c.if-not-all_zero.false)

pub returns : goal.returns
returns c =
    let l = c.loop-n in ap (λ (n : ℕ). block_rows * n) (sym (l.invariant ∙ used-none _ l.n (omega arith)))
