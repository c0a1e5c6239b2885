-- A walk along a chain of layers that looks for one that passes a test. Assumes nothing.
use mathlib.Core.Path.{◌≡◌, refl, sym, ap, ◌∙◌}
use mathlib.Core.Bool.{Bool, true, false, not, ◌||◌}
use mathlib.Core.List.{List, [], ◌∷◌}
use Prim.Native.Nat.{ℕ, zero, suc, ◌-◌}
use native.Mathlib.Numerals.{sub-one}
use lib.Dec.{eqb}
use Rattle.laws.specs.Tests.{any, elem}
use Rattle.access.specs.Limits.{max_domain}
use Rattle.tables.specs.Tables.{youngest}
use Rattle.tables.specs.Layers.{layer_parent}
use Rattle.judge.specs.Domain.{chain, domain}
use Rattle.task.specs.declared.Scope.{Scope}
use Rattle.task.specs.Task.{scope_right, escapes, reaches}

module _ (ls : List ℕ) (p : ℕ → Bool) where
  any-end : (n y : ℕ) → y ≡ 0 → any p (chain ls n y) ≡ false
  unfolding chain any
  any-end zero y h = refl
  any-end (suc n) y h = rw h refl

  any_none : (n y : ℕ) → n ≡ 0 → any p (chain ls n y) ≡ false
  unfolding chain any
  any_none n y h = rw h refl

  any_up : (n y : ℕ) → (y ≡ 0 → ⊥) → (n ≡ 0 → ⊥) → any p (chain ls n y) ≡ (p (y - 1) || any p (chain ls (n - 1) (layer_parent ls (y - 1))))
  unfolding chain any
  any_up zero y h d = absurd (d refl)
  any_up (suc n) zero h d = absurd (h refl)
  any_up (suc n) (suc l) h d = rw (sub-one (suc n), sub-one (suc l)) refl

  -- a loop over the chain: `whole` is the answer
  module _ {whole : Bool} (n y : ℕ) (inv : whole ≡ any p (chain ls n y)) where
    pub walk_end : y ≡ 0 → false ≡ whole
    walk_end h = sym (inv ∙ any-end n y h)

    pub walk_none : n ≡ 0 → false ≡ whole
    walk_none h = sym (inv ∙ any_none n y h)

    pub walk_hit : (y ≡ 0 → ⊥) → (n ≡ 0 → ⊥) → p (y - 1) ≡ true → true ≡ whole
    walk_hit h d q = sym (inv ∙ any_up n y h d ∙ rw q refl)

    pub walk_up : {above : ℕ} → (y ≡ 0 → ⊥) → (n ≡ 0 → ⊥) → p (y - 1) ≡ false → above ≡ layer_parent ls (y - 1) → whole ≡ any p (chain ls (n - 1) above)
    walk_up h d q u = inv ∙ any_up n y h d ∙ rw (q, u) refl

-- a list has a number exactly if some element equals it
pub elem-any : (l : ℕ) (D : List ℕ) → elem l D ≡ any (λ k. eqb l k) D
unfolding elem any
elem-any l [] = refl
elem-any l (k ∷ D) = ap (λ (b : Bool). eqb l k || b) (elem-any l D)

-- from the youngest layers to the domains
pub leaves_none : (ls ts : List ℕ) (t u : ℕ) (s : Scope) {r y z : ℕ} {b : Bool} → r ≡ scope_right s → y ≡ youngest ts t → z ≡ youngest ts u
    → b ≡ any (escapes ls r (chain ls max_domain z)) (chain ls max_domain y) → not b ≡ reaches ls s (domain ls ts t) (domain ls ts u)
unfolding reaches domain
leaves_none ls ts t u s p q v k = rw (← p, ← q, ← v) (ap not k)
