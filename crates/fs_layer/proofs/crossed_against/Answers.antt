use mathlib.Core.Path.{sym, ap, ◌∙◌}
use Prim.Native.Nat.{ℕ}
use lib.Dec.{eqb}
use borrow.Author.Tests.{eq-eqb, ne_eqb, not-true, not-false}
use Rattle.fs.specs.Against.{crossed_against}
use Rattle.fs_layer.proofs.crossed_against.Goals as goal

pub returns-then-m : goal.returns-then-m
unfolding crossed_against
returns-then-m c =
    rw (eq-eqb _ _ c.if-m.true)

pub returns-then-not-is_empty : goal.returns-then-not-is_empty
unfolding crossed_against
returns-then-not-is_empty c =
    rw (ne_eqb _ _ c.if-m.false, ap (λ (x : ℕ). eqb x 0) (sym c.refer_against.ensures) ∙ sym c.is_empty.ensures ∙ c.if-not-is_empty.true)

pub returns : goal.returns
unfolding crossed_against
returns c =
    rw (ne_eqb _ _ c.if-m.false, ap (λ (x : ℕ). eqb x 0) (sym c.refer_against.ensures) ∙ sym c.is_empty.ensures ∙ c.if-not-is_empty.false) c.escaping_against.ensures
