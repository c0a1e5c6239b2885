-- How code comes to the outcome of a call, and what an outcome tells, for any call. Assumes nothing.
use mathlib.Core.Path.{◌≡◌, refl, ap, ◌∙◌}
use mathlib.Core.Bool.{Bool, true, false, not}
use mathlib.Core.List.{List, ◌∷◌}
use Prim.Native.Nat.{ℕ}
use lib.Dec.{eqb}
use borrow.Author.Tests.{eqb-true, eqb-false}
use Rattle.laws.proofs.Bools.{split}
use Rattle.laws.specs.Refusals.{Check, ◌⇒◌, first}
use Rattle.laws.proofs.Refusals.{first-is, hit_not}
use Rattle.access.specs.Errno.{EIO}
use Rattle.tables.specs.Tables.{Tables}
use Rattle.tables.specs.Outcome.{Outcome, refused, answer, named, naming}
use Rattle.tables.proofs.Outcomes.{answer-refused, answer-done}
use Rattle.sound.specs.Sound.{sound}
use Rattle.sound.specs.Call.{call}

module _ (T : Tables) (cs : List Check) (done : Outcome) where
  -- the first of the whole list, once the tables are known to be sound
  past_soundness : {b : Bool} {e : ℕ} → b ≡ sound T → not b ≡ false → e ≡ first cs → e ≡ first (not (sound T) ⇒ EIO ∷ cs)
  unfolding first
  past_soundness q p k = rw (← q, p) k

  pub call-unsound : {b : Bool} → b ≡ sound T → not b ≡ true → refused EIO T ≡ call T cs done
  unfolding call
  call-unsound q p = answer-refused T (not (sound T) ⇒ EIO ∷ cs) done (first-is (hit_not q p)) (eqb-false EIO 0 refl)

  pub call-refused : {b : Bool} {e : ℕ} → b ≡ sound T → not b ≡ false → e ≡ first cs → (e ≡ 0 → ⊥) → refused e T ≡ call T cs done
  unfolding call
  call-refused q p k n = answer-refused T (not (sound T) ⇒ EIO ∷ cs) done (past_soundness q p k) n

  pub call-done : {b : Bool} {e : ℕ} → b ≡ sound T → not b ≡ false → e ≡ first cs → e ≡ 0 → done ≡ call T cs done
  unfolding call
  call-done q p k z = answer-done T (not (sound T) ⇒ EIO ∷ cs) done (past_soundness q p k) z

  -- a function that makes the call's own tests and change
  pub call_passes : {b : Bool} {o : Outcome} → b ≡ sound T → not b ≡ false → o ≡ answer T cs done → o ≡ call T cs done
  unfolding call answer first
  call_passes q p k = rw (← q, p) k

  -- what is to be shown so that a call keeps sound tables sound
  pub kept-call : (first cs ≡ 0 → sound done.left ≡ true) → sound T ≡ true → sound (call T cs done).left ≡ true
  unfolding call answer first
  kept-call f h = split (eqb (first cs) 0) (λ q. rw (h, q) (f (eqb-true (first cs) 0 q))) (λ q. rw (h, q) h)

-- a call with a verdict, whose refusals name a layer
module _ (a b : ℕ → ℕ) (D : List ℕ) (T : Tables) (cs : List Check) (done : Outcome) where
  pub named-unsound : {q : Bool} → q ≡ sound T → not q ≡ true → refused EIO T ≡ naming a b D (call T cs done)
  unfolding named
  named-unsound h p = ap (λ (o : Outcome). naming a b D o) (call-unsound T cs done h p)

  pub named_passes : {q : Bool} {o : Outcome} → q ≡ sound T → not q ≡ false → o ≡ naming a b D (answer T cs done) → o ≡ naming a b D (call T cs done)
  named_passes h p k = k ∙ ap (λ (o : Outcome). naming a b D o) (call_passes T cs done h p refl)
