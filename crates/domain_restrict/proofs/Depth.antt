-- The walk along a chain of layers that counts them: whether n more follow. Assumes nothing.
use mathlib.Core.Path.{◌≡◌, refl, sym, ap, ◌∙◌}
use mathlib.Core.Bool.{Bool, true, false}
use mathlib.Core.List.{List}
use Prim.Native.Nat.{ℕ, zero, suc, ◌-◌}
use native.Mathlib.Numerals.{sub-one}
use native.Mathlib.Omega.{arith}
use lib.Dec.{leb, leb-suc-suc}
use lib.ListN.{length}
use borrow.Author.Tests.{le-leb, lt-leb}
use Rattle.tables.specs.Layers.{layer_parent}
use Rattle.judge.specs.Domain.{chain}

module _ (ls : List ℕ) where
  -- n layers follow the cell y
  abbrev pub deep : ℕ → ℕ → Bool
  deep n y = leb n (length (chain ls n y))

  deep-end : (n y : ℕ) → (n ≡ 0 → ⊥) → y ≡ 0 → deep n y ≡ false
  unfolding chain
  deep-end zero y k h = absurd (k refl)
  deep-end (suc n) y k h = rw h (lt-leb (suc n) 0 (omega arith))

  deep_none : (n y : ℕ) → n ≡ 0 → deep n y ≡ true
  deep_none n y k = le-leb n (length (chain ls n y)) (omega arith)

  deep_up : (n y : ℕ) → (n ≡ 0 → ⊥) → (y ≡ 0 → ⊥) → deep n y ≡ deep (n - 1) (layer_parent ls (y - 1))
  unfolding chain
  deep_up zero y k h = absurd (k refl)
  deep_up (suc n) zero k h = absurd (h refl)
  deep_up (suc n) (suc l) k h = rw (sub-one (suc n), sub-one (suc l)) (leb-suc-suc n (length (chain ls n (layer_parent ls l))))

  -- a loop that counts: `whole` is the answer
  module _ {whole : Bool} (n y : ℕ) (inv : whole ≡ deep n y) where
    pub count-end : (n ≡ 0 → ⊥) → y ≡ 0 → false ≡ whole
    count-end k h = sym (inv ∙ deep-end n y k h)

    pub count_none : n ≡ 0 → true ≡ whole
    count_none k = sym (inv ∙ deep_none n y k)

    pub count_up : {above : ℕ} → (n ≡ 0 → ⊥) → (y ≡ 0 → ⊥) → above ≡ layer_parent ls (y - 1) → whole ≡ deep (n - 1) above
    count_up k h a = inv ∙ deep_up n y k h ∙ ap (deep (n - 1)) (sym a)
