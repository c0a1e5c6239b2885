-- How a scan of the entries comes to who bears a name, the parent tested first. Assumes nothing.
use mathlib.Core.Path.{◌≡◌, refl, sym, ◌∙◌}
use mathlib.Core.Bool.{Bool, true, false, cond, not, ◌&&◌}
use mathlib.Core.List.{List}
use Prim.Native.Nat.{ℕ, ◌*◌, ◌/◌, ◌≤◌, ◌<◌, min}
use native.Mathlib.Omega.{arith}
use lib.Dec.{eqb, ltb}
use lib.ListN.{length, get_or-eq_default}
use borrow.Author.Tests.{eqb-true, eq-eqb, eqb-false, ne_eqb, ltb-true, ltb-false}
use Rattle.laws.specs.Tests.{any_below}
use Rattle.laws.proofs.Bools.{split}
use Rattle.laws.proofs.Tests.{none-at, none_of, first_found, first-none}
use Rattle.access.specs.Limits.{max_entries}
use Rattle.tables.specs.Tables.{entry_width, kind, parent, live}
use Rattle.tree.specs.Entries.{is_child}
use Rattle.names.specs.Names.{same_bytes, name_at, is_named, bears, bearer_from}

regroup : (a b s : Bool) → ((a && (b && true)) && s) ≡ ((a && b) && s)
regroup true true s = refl
regroup true false s = refl
regroup false b s = refl

nowhere : (a b s : Bool) → ((a && (b && false)) && s) ≡ false
nowhere true true s = refl
nowhere true false s = refl
nowhere false b s = refl

dead : (a s : Bool) → ((a && false) && s) ≡ false
dead true s = refl
dead false s = refl

module _ (es ns : List ℕ) (d : ℕ) (n : List ℕ) (x : ℕ) where
  -- `v` is the parent that was read, `b` what was answered there
  pub bears-here : {v : ℕ} {b r : Bool} → v ≡ parent es x → v ≡ d → b ≡ (is_named es x && same_bytes (name_at ns x) n) → b ≡ r → bears es ns d n x ≡ r
  unfolding bears is_child is_named
  bears-here p e q h = rw (eq-eqb (parent es x) d (sym p ∙ e)) (regroup (not (eqb x 0)) (live es x) (same_bytes (name_at ns x) n) ∙ sym q ∙ h)

  pub bears_elsewhere : {v : ℕ} → v ≡ parent es x → (v ≡ d → ⊥) → bears es ns d n x ≡ false
  unfolding bears is_child
  bears_elsewhere p f = rw (ne_eqb (parent es x) d (λ e. f (p ∙ e))) (nowhere (not (eqb x 0)) (live es x) (same_bytes (name_at ns x) n))

  -- past the table's end there is no live entry
  bears-past : length es ≤ entry_width * x → bears es ns d n x ≡ false
  unfolding bears is_child live
  bears-past g =
      let k : kind es x ≡ 0 = get_or-eq_default es 0 (omega arith) in
      rw (k) (dead (not (eqb x 0)) (same_bytes (name_at ns x) n))

-- a scan of the whole rows, then of the one that the table cuts
module _ (es ns : List ℕ) (d : ℕ) (n : List ℕ) where
  abbrev b : ℕ → Bool
  b = bears es ns d n

  pub cut-is : {r : ℕ} (x : ℕ) → x ≤ max_entries → min (length es / entry_width) max_entries ≤ x → any_below b x ≡ false
      → r ≡ cond (ltb x max_entries && b x) x max_entries → r ≡ bearer_from es ns d n
  unfolding bearer_from
  cut-is x h k u q = split (ltb x max_entries)
      (λ l. split (b x)
      (λ t. q ∙ rw (l, t) (first_found b max_entries x (ltb-true x max_entries l) u t))
      (λ t. q ∙ rw (l, t) (first-none b max_entries max_entries (omega arith) (omega arith) (none_of b max_entries (none_from t (ltb-true x max_entries l))))))
      (λ l. q ∙ rw l (let g = ltb-false x max_entries l in first-none b max_entries max_entries (omega arith) (omega arith) (let e : max_entries ≡ x = omega arith in rw e u)))
    where
      none_from : b x ≡ false → x < max_entries → (j : ℕ) → j < max_entries → b j ≡ false
      none_from t l j m = split (ltb j x)
          (λ q. none-at b x j u (ltb-true j x q))
          (λ q. split (eqb j x) (λ e. rw (eqb-true j x e) t)
          (λ e. let f = eqb-false j x e in let g = ltb-false j x q in bears-past es ns d n j (omega arith)))
