-- The answers, one by one. Assumes nothing.
use mathlib.Core.Path.{◌≡◌, refl, sym, ap, ◌∙◌}
use mathlib.Core.List.{List}
use Prim.Native.Nat.{ℕ, zero, suc, ◌+◌, ◌*◌, ◌≤◌}
use native.Mathlib.Numerals.{add-one}
use native.Mathlib.Omega.{arith}
use lib.Dec.{eqb, ltb}
use lib.ListN.{length, length-set}
use borrow.Author.Tests.{eqb-true, ltb-false, not-false}
use Rattle.laws.specs.Refusals.{first}
use Rattle.laws.proofs.Refusals.{passed}
use Rattle.access.specs.declared.errno.Reply.{Reply}
use Rattle.codes.specs.Codes.{said}
use Rattle.named.specs.Named.{Named}
use Rattle.named.specs.Batch.{request_width, request_count, batch_answer_width, put_said, request_reply, answers_to, batch_checks}

-- what a batch that is not refused has: whole requests, and room for all answers
pub whole-requests : (rs xs : List ℕ) → first (batch_checks rs xs) ≡ 0 → length rs ≡ request_width * request_count rs
unfolding batch_checks
whole-requests rs xs z = eqb-true (length rs) (request_width * request_count rs) (not-false (eqb (length rs) (request_width * request_count rs)) (passed _ z).0)

pub room : (rs xs : List ℕ) → first (batch_checks rs xs) ≡ 0 → batch_answer_width * request_count rs ≤ length xs
unfolding batch_checks
room rs xs z = ltb-false (length xs) (batch_answer_width * request_count rs) (passed _ z).1.1.0

module _ (N : Named) (rs ns xs : List ℕ) where
  pub answers-none : xs ≡ answers_to N rs ns xs 0
  unfolding answers_to
  answers-none = refl

  pub answers_more : (i : ℕ) {ys zs : List ℕ} {r : Reply} → ys ≡ answers_to N rs ns xs i → r ≡ request_reply N rs ns i → zs ≡ put_said ys i (said r) → zs ≡ answers_to N rs ns xs (i + 1)
  unfolding answers_to
  answers_more i p q k = rw (add-one i) (k ∙ rw (p, q) refl)

  pub answers-length : (i : ℕ) → length (answers_to N rs ns xs i) ≡ length xs
  unfolding answers_to put_said
  answers-length zero = refl
  answers-length (suc i) = simp length-set (answers-length i)

  -- a loop's end
  pub all-answered : {i : ℕ} {ys : List ℕ} → i ≤ request_count rs → request_count rs ≤ i → ys ≡ answers_to N rs ns xs i → ys ≡ answers_to N rs ns xs (request_count rs)
  all-answered {i} a b q = let e : request_count rs ≡ i = omega arith in rw e q
