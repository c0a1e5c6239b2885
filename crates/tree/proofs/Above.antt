-- The climb of `is_above`: what is left of it decides. Assumes nothing.
use mathlib.Core.Path.{◌≡◌, refl, sym, ◌∙◌}
use mathlib.Core.Bool.{Bool, true, false}
use mathlib.Core.List.{List}
use Prim.Native.Nat.{ℕ, zero, suc, ◌-◌}
use native.Mathlib.Numerals.{sub-one}
use lib.Dec.{eqb}
use borrow.Author.Tests.{eq-eqb, ne_eqb}
use Rattle.tables.specs.Tables.{parent}
use Rattle.tree.specs.Entries.{above}

module _ (es : List ℕ) (a : ℕ) where
  above_hit : (n x : ℕ) → x ≡ a → above es n a x ≡ true
  unfolding above
  above_hit zero x h = eq-eqb x a h
  above_hit (suc n) x h = rw (eq-eqb x a h)

  above_root : (n x : ℕ) → (x ≡ a → ⊥) → x ≡ 0 → above es n a x ≡ false
  unfolding above
  above_root zero x h k = ne_eqb x a h
  above_root (suc n) x h k = rw (ne_eqb x a h, eq-eqb x 0 k)

  above_up : (n x : ℕ) → (n ≡ 0 → ⊥) → (x ≡ a → ⊥) → (x ≡ 0 → ⊥) → above es n a x ≡ above es (n - 1) a (parent es x)
  unfolding above
  above_up zero x z h k = absurd (z refl)
  above_up (suc n) x z h k = rw (sub-one (suc n), ne_eqb x a h, ne_eqb x 0 k)

  above-end : (n x : ℕ) → n ≡ 0 → above es n a x ≡ eqb x a
  unfolding above
  above-end n x h = rw h

  -- a loop: `whole` is the answer
  module _ {whole : Bool} (n x : ℕ) (inv : whole ≡ above es n a x) where
    pub climb_hit : x ≡ a → true ≡ whole
    climb_hit h = sym (inv ∙ above_hit n x h)

    pub climb_root : (x ≡ a → ⊥) → x ≡ 0 → false ≡ whole
    climb_root h k = sym (inv ∙ above_root n x h k)

    pub climb_up : {p : ℕ} → (n ≡ 0 → ⊥) → (x ≡ a → ⊥) → (x ≡ 0 → ⊥) → p ≡ parent es x → whole ≡ above es (n - 1) a p
    climb_up z h k q = rw q (inv ∙ above_up n x z h k)

    pub climb_end : n ≡ 0 → eqb x a ≡ whole
    climb_end h = sym (inv ∙ above-end n x h)
