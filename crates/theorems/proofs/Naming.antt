-- The outcome of a call, case by case; and one that names a layer is done exactly if it was, with the same number. Assumes nothing.
use mathlib.Core.Path.{◌≡◌, refl, sym, ap, subst, ◌∙◌}
use mathlib.Core.Bool.{true, false}
use mathlib.Core.List.{List, [], ◌∷◌}
use Prim.Native.Nat.{ℕ}
use lib.Dec.{eqb}
use borrow.Author.Tests.{eqb-true, eqb-false}
use Rattle.laws.specs.Refusals.{Check, first}
use Rattle.laws.proofs.Bools.{split, clash}
use Rattle.access.specs.Errno.{EIO, EACCES, EXDEV}
use Rattle.access.specs.declared.errno.Reply.{Reply}
use Rattle.access.specs.declared.errno.Reply.TheVariants.{Done, Refused, Denied}
use Rattle.tables.specs.Tables.{Tables}
use Rattle.tables.specs.Outcome.{Outcome, refused, error_of, blame, named}
use Rattle.sound.specs.Sound.{sound}
use Rattle.sound.specs.Call.{call}
use Rattle.sound.proofs.Calls.{call-unsound, call-refused, call-done}
use Rattle.theorems.specs.Calls.{is_done}

pub call-cases : (T : Tables) (cs : List Check) (done : Outcome) (P : Outcome → Type 0) → (sound T ≡ false → P (refused EIO T))
    → (sound T ≡ true → (first cs ≡ 0 → ⊥) → P (refused (first cs) T)) → (sound T ≡ true → first cs ≡ 0 → P done) → P (call T cs done)
call-cases T cs done P u f d = split (sound T)
    (λ h. split (eqb (first cs) 0)
    (λ q. let z = eqb-true (first cs) 0 q in subst P (call-done T cs done (sym h) refl refl z) (d h z))
    (λ q. let z = eqb-false (first cs) 0 q in subst P (call-refused T cs done (sym h) refl refl z) (f h z)))
    (λ h. subst P (call-unsound T cs done (sym h) refl) (u h))

module _ (e : ℕ) (f : ℕ → ℕ) where
  blame_refuses : (D : List ℕ) → is_done (blame e f D) ≡ false
  unfolding blame
  blame_refuses [] = refl
  blame_refuses (l ∷ D) = split (eqb (f l) 0) (λ q. rw q (blame_refuses D)) (λ q. rw q refl)

  pub blame-error : (D : List ℕ) → error_of (blame e f D) ≡ e
  unfolding blame
  blame-error [] = refl
  blame-error (l ∷ D) = split (eqb (f l) 0) (λ q. rw q (blame-error D)) (λ q. rw q refl)

module _ (a b : ℕ → ℕ) (D : List ℕ) where
  pub done-named : (r : Reply) → is_done (named a b D r) ≡ is_done r
  unfolding named
  done-named (Done n) = refl
  done-named (Refused e) = split (eqb e.0 EACCES) (λ q. rw q (blame_refuses EACCES a D))
      (λ q. rw q (split (eqb e.0 EXDEV) (λ v. rw v (blame_refuses EXDEV b D)) (λ v. rw v refl)))
  done-named (Denied e l s) = refl

  pub error-named : (r : Reply) → error_of (named a b D r) ≡ error_of r
  unfolding named
  error-named (Done n) = refl
  error-named (Refused e) = split (eqb e.0 EACCES) (λ q. rw q (blame-error EACCES a D ∙ sym (eqb-true e.0 EACCES q)))
      (λ q. rw q (split (eqb e.0 EXDEV) (λ v. rw v (blame-error EXDEV b D ∙ sym (eqb-true e.0 EXDEV v))) (λ v. rw v refl)))
  error-named (Denied e l s) = refl

  pub named-done : (r : Reply) (n : ℕ) → named a b D r ≡ Done n → r ≡ Done n
  unfolding named
  named-done (Done m) n h = h
  named-done (Refused e) n h = clash (is_done (Refused e)) (sym (done-named (Refused e)) ∙ ap is_done h) refl
  named-done (Denied e l s) n h = clash (is_done (Denied e l s)) (ap is_done h) refl
