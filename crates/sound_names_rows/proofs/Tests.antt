-- A loop that makes a test of every number without an early exit. Assumes nothing.
use mathlib.Core.Path.{◌≡◌, refl, sym, ap, ◌∙◌}
use mathlib.Core.Bool.{Bool, true, ◌&&◌}
use Prim.Native.Nat.{ℕ, ◌+◌, ◌≤◌}
use native.Mathlib.Numerals.{add-one}
use native.Mathlib.Omega.{arith}
use Rattle.laws.specs.Tests.{all_below}
use Rattle.laws.proofs.Tests.{all_none}

module _ (p : ℕ → Bool) where
  -- its start
  pub all_start : true ≡ all_below p 0
  all_start = sym (all_none p)

  -- its turn
  pub all_with : (i : ℕ) {b t : Bool} → b ≡ all_below p i → t ≡ p i → (b && t) ≡ all_below p (i + 1)
  unfolding all_below
  all_with i h k = rw (add-one, h, k) refl

  -- its end
  pub all_end : (n i : ℕ) {b : Bool} → i ≤ n → n ≤ i → b ≡ all_below p i → b ≡ all_below p n
  all_end n i l g h = let e : i ≡ n = omega arith in h ∙ ap (all_below p) e
