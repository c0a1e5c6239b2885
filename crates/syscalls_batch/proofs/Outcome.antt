-- The outcome of a batch. Assumes nothing.
use mathlib.Core.Path.{◌≡◌, refl}
use mathlib.Core.List.{List}
use Prim.Native.Nat.{ℕ}
use borrow.Author.Tests.{ne_eqb}
use Rattle.laws.specs.Refusals.{first}
use Rattle.access.specs.declared.errno.Reply.TheVariants.{Done, Refused}
use Rattle.named.specs.Named.{Named, named_outcome}
use Rattle.named.specs.Batch.{request_count, answers_to, batch_checks, batch_of, batch_named}

module _ (N : Named) (rs ns xs : List ℕ) {e : ℕ} (h : e ≡ first (batch_checks rs xs)) where
  pub refused-batch : (e ≡ 0 → ⊥) → (named_outcome (Refused (record { 0 = e })) N ≡ batch_named N rs ns xs) × (xs ≡ (batch_of N rs ns xs).answers)
  unfolding batch_named batch_of
  refused-batch n = (rw (← h, ne_eqb e 0 n) refl, rw (← h, ne_eqb e 0 n) refl)

  pub done-batch : {ys : List ℕ} → e ≡ 0 → ys ≡ answers_to N rs ns xs (request_count rs) → (named_outcome (Done 0) N ≡ batch_named N rs ns xs) × (ys ≡ (batch_of N rs ns xs).answers)
  unfolding batch_named batch_of
  done-batch z k = (rw (← h, z) refl, rw (← h, z) k)
