-- How a walk over an order comes to a denial. Assumes nothing.
use mathlib.Core.Path.{◌≡◌, refl, sym, ap, ◌∙◌}
use mathlib.Core.Bool.{Bool, true, false}
use mathlib.Core.List.{List}
use Prim.Native.Nat.{ℕ, zero, suc, ◌+◌, ◌-◌, ◌<◌, ◌≤◌}
use native.Mathlib.Numerals.{sub-one, add-one}
use native.Mathlib.Omega.{arith}
use lib.Dec.{eqb}
use lib.ListN.{get_or}
use Rattle.access.specs.Limits.{max_domain}
use Rattle.verdict.specs.declared.Denial.{Denial}
use Rattle.verdict.specs.declared.Denial.TheVariants.{Denied}
use Rattle.verdict.specs.Denial.{kept_at, kept_set, crossed_at, denial}
use Rattle.domain_order.specs.Order.{list_from, listed}

module _ (order : List ℕ) (a b : ℕ → ℕ) where
  rest-step : (n i : ℕ) → (n ≡ 0 → ⊥) → listed order i n ≡ list_from (get_or order i 0) (listed order (suc i) (n - 1))
  unfolding listed
  rest-step zero i d = absurd (d refl)
  rest-step (suc n) i d = rw (sub-one (suc n)) refl

  from_end : (k set y : ℕ) (D : List ℕ) → y ≡ 0 → denial a b k set (list_from y D) ≡ crossed_at k set
  unfolding list_from denial
  from_end k set y D h = rw h refl

  from_hit : (k set y : ℕ) (D : List ℕ) → (y ≡ 0 → ⊥) → eqb (a (y - 1)) 0 ≡ false → denial a b k set (list_from y D) ≡ Denied (y - 1) (record { 0 = a (y - 1) })
  unfolding list_from denial
  from_hit k set zero D h t = absurd (h refl)
  from_hit k set (suc l) D h t = rw (sub-one (suc l), rw (sub-one (suc l)) at t) refl

  from_up : (k set y : ℕ) (D : List ℕ) → (y ≡ 0 → ⊥) → eqb (a (y - 1)) 0 ≡ true
      → denial a b k set (list_from y D) ≡ denial a b (kept_at k y (b (y - 1))) (kept_set k set (b (y - 1))) D
  unfolding list_from denial
  from_up k set zero D h t = absurd (h refl)
  from_up k set (suc l) D h t = rw (sub-one (suc l), rw (sub-one (suc l)) at t) refl

  -- a loop over the order: `whole` is the answer
  module _ {whole : Denial} (k set i : ℕ) (inv : whole ≡ denial a b k set (listed order i (max_domain - i))) where
    pub list_none : {r : Denial} → max_domain ≤ i → r ≡ crossed_at k set → r ≡ whole
    unfolding listed denial
    list_none h e = let z : max_domain - i ≡ 0 = omega arith in e ∙ sym (inv ∙ rw z refl)

    module _ (h : i < max_domain) where
      next : whole ≡ denial a b k set (list_from (get_or order i 0) (listed order (suc i) (max_domain - i - 1)))
      next = inv ∙ ap (denial a b k set) (rest-step (max_domain - i) i (λ z. omega arith))

      pub list_end : {r : Denial} → get_or order i 0 ≡ 0 → r ≡ crossed_at k set → r ≡ whole
      list_end z e = e ∙ sym (next ∙ from_end k set (get_or order i 0) _ z)

      module _ {s : ℕ} {e : Bool} (d : get_or order i 0 ≡ 0 → ⊥) (q : s ≡ a (get_or order i 0 - 1)) (p : e ≡ eqb s 0) where
        pub list_hit : e ≡ false → Denied (get_or order i 0 - 1) (record { 0 = s }) ≡ whole
        list_hit t = sym (next ∙ from_hit k set (get_or order i 0) _ d (ap (λ (x : ℕ). eqb x 0) (sym q) ∙ sym p ∙ t) ∙ rw q refl)

        pub list_up : {c k' set' : ℕ} → e ≡ true → c ≡ b (get_or order i 0 - 1) → set' ≡ kept_set k set c → k' ≡ kept_at k (get_or order i 0) c
            → whole ≡ denial a b k' set' (listed order (i + 1) (max_domain - (i + 1)))
        list_up t c u v =
            let z : max_domain - i - 1 ≡ max_domain - suc i = omega arith in
            next ∙ from_up k set (get_or order i 0) _ d (ap (λ (x : ℕ). eqb x 0) (sym q) ∙ sym p ∙ t) ∙ rw (add-one i, u, v, c, z) refl
