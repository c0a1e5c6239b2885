-- How code comes to the answer of a call, for any call. Assumes nothing.
use mathlib.Core.Path.{◌≡◌}
use mathlib.Core.List.{List}
use Prim.Native.Nat.{ℕ}
use borrow.Author.Tests.{ne_eqb}
use Rattle.laws.specs.Refusals.{Check, first}
use Rattle.tables.specs.Tables.{Tables, tables}
use Rattle.tables.specs.Outcome.{Outcome, refused, answer}

module _ (T : Tables) (cs : List Check) (done : Outcome) where
  pub answer-refused : {e : ℕ} → e ≡ first cs → (e ≡ 0 → ⊥) → refused e T ≡ answer T cs done
  unfolding answer
  answer-refused {e} k n = rw (← k) (simp (ne_eqb e 0 n))

  pub answer-done : {e : ℕ} → e ≡ first cs → e ≡ 0 → done ≡ answer T cs done
  unfolding answer
  answer-done k z = rw (← k, z)

-- two records of tables agree, table by table
pub same_tables : {a a' b b' c c' d d' e e' f f' : List ℕ} → a ≡ a' → b ≡ b' → c ≡ c' → d ≡ d' → e ≡ e' → f ≡ f' → tables a b c d e f ≡ tables a' b' c' d' e' f'
same_tables p q r s t u = rw (p, q, r, s, t, u)
