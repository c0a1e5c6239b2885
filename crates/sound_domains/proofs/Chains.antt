-- The steps of a chain of layers. Assumes nothing.
use mathlib.Core.Path.{◌≡◌, refl, sym, ap, ◌∙◌}
use mathlib.Core.Bool.{true}
use mathlib.Core.List.{List}
use Prim.Native.Nat.{ℕ, zero, suc, ◌+◌, ◌-◌, ◌*◌, ◌<◌}
use native.Mathlib.Nat.{add-zero}
use native.Mathlib.Numerals.{sub-one}
use native.Mathlib.Omega.{arith}
use lib.Dec.{eqb}
use lib.ListN.{length, get_or}
use borrow.Author.Tests.{eq-eqb, ne_eqb}
use Rattle.laws.proofs.Cells.{past}
use Rattle.access.specs.Limits.{max_layers}
use Rattle.tables.specs.Tables.{layer_width}
use Rattle.tables.specs.Layers.{layer_parent}
use Rattle.sound_domains.specs.Domains.{chain_ends}

pub chain-end : (ls : List ℕ) (n y : ℕ) → y ≡ 0 → chain_ends ls n y ≡ true
unfolding chain_ends
chain-end ls zero y h = eq-eqb y 0 h
chain-end ls (suc n) y h = simp (eq-eqb y 0 h)

pub chain-none : (ls : List ℕ) (n y : ℕ) → n ≡ 0 → chain_ends ls n y ≡ eqb y 0
unfolding chain_ends
chain-none ls n y h = rw h

pub chain_up : (ls : List ℕ) (n y : ℕ) → (y ≡ 0 → ⊥) → (n ≡ 0 → ⊥) → chain_ends ls n y ≡ chain_ends ls (n - 1) (layer_parent ls (y - 1))
unfolding chain_ends
chain_up ls zero y h k = absurd (k refl)
chain_up ls (suc n) y h k = rw (sub-one (suc n)) (simp (ne_eqb y 0 h))

-- a layer past the table has no parent
pub chain-past : (ls : List ℕ) (n y : ℕ) → length ls ≡ layer_width * max_layers → max_layers < y → (n ≡ 0 → ⊥) → chain_ends ls n y ≡ true
chain-past ls n y w h k = chain_up ls n y (λ z. omega arith) k ∙ chain-end ls (n - 1) (layer_parent ls (y - 1)) (sym (past ls (layer_width * (y - 1) + 0) (omega arith)))

-- a step, to the cell that the code reads
pub chain-cell : (ls : List ℕ) (n y : ℕ) → (y ≡ 0 → ⊥) → (n ≡ 0 → ⊥) → chain_ends ls n y ≡ chain_ends ls (n - 1) (get_or ls (layer_width * (y - 1)) 0)
chain-cell ls n y h k = chain_up ls n y h k ∙ ap (λ (i : ℕ). chain_ends ls (n - 1) (get_or ls i 0)) (add-zero (layer_width * (y - 1)))
