-- The order of refusals: a call's refusals are a list of tests with their error numbers.
use Rattle.std.specs.Prelude.{Bool, cond, List, [], ◌∷◌, ℕ}

-- `b ⇒ e`: if b, the number e; `b ⇒ 0`: if b, nothing further refuses
infix 70 ◌⇒◌
pub data Check : Type 0 where
  ◌⇒◌ : Bool → ℕ → Check

-- the number of the first test that holds; 0 if none does
unfoldable pub first : List Check → ℕ
first [] = 0
first ((b ⇒ e) ∷ cs) = let r = first cs in cond b e r
