-- One step of a climb. Assumes nothing.
use mathlib.Core.Path.{◌≡◌, refl}
use mathlib.Core.Bool.{true}
use mathlib.Core.List.{List}
use Prim.Native.Nat.{ℕ, zero, suc, ◌-◌}
use native.Mathlib.Numerals.{sub-one}
use lib.Dec.{eqb}
use borrow.Author.Tests.{eq-eqb, ne_eqb}
use Rattle.tables.specs.Tables.{parent}
use Rattle.sound_tree.specs.Tree.{reaches}

module _ (es : List ℕ) where
  -- at the root
  pub reaches_root : (n e : ℕ) → e ≡ 0 → reaches es n e ≡ true
  unfolding reaches
  reaches_root zero e h = eq-eqb e 0 h
  reaches_root (suc n) e h = simp (eq-eqb e 0 h)

  -- at the bound
  pub reaches-none : (n e : ℕ) → n ≡ 0 → reaches es n e ≡ eqb e 0
  unfolding reaches
  reaches-none n e h = rw h

  -- a step
  pub reaches_up : (n e : ℕ) → (e ≡ 0 → ⊥) → (n ≡ 0 → ⊥) → reaches es n e ≡ reaches es (n - 1) (parent es e)
  unfolding reaches
  reaches_up zero e h k = absurd (k refl)
  reaches_up (suc n) e h k = rw (sub-one) (simp (ne_eqb e 0 h))
