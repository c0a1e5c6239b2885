-- When a layer is in use. Assumes nothing.
use mathlib.Core.Path.{◌≡◌, refl}
use mathlib.Core.Bool.{true, false}
use mathlib.Core.List.{List}
use Prim.Native.Nat.{ℕ}
use borrow.Author.Tests.{ne_eqb}
use Rattle.tables.specs.Layers.{layer_holders, layer_in_use}

module _ (ls : List ℕ) (l : ℕ) where
  pub held_none : layer_holders ls l ≡ 0 → layer_in_use ls l ≡ false
  unfolding layer_in_use
  held_none z = rw z refl

  pub held-some : (layer_holders ls l ≡ 0 → ⊥) → layer_in_use ls l ≡ true
  unfolding layer_in_use
  held-some d = rw (ne_eqb (layer_holders ls l) 0 d) refl
