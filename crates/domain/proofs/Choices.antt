-- A number chosen by whether another is 0. Assumes nothing.
use mathlib.Core.Path.{◌≡◌}
use mathlib.Core.Bool.{cond}
use Prim.Native.Nat.{ℕ}
use lib.Dec.{eqb}
use borrow.Author.Tests.{eq-eqb, ne_eqb}

module _ (n a b : ℕ) {v : ℕ} where
  pub chosen-first : n ≡ 0 → v ≡ a → v ≡ cond (eqb n 0) a b
  chosen-first z e = rw (eq-eqb n 0 z) e

  pub chosen-second : (n ≡ 0 → ⊥) → v ≡ b → v ≡ cond (eqb n 0) a b
  chosen-second z e = rw (ne_eqb n 0 z) e
