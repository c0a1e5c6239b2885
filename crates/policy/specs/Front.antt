-- What a part of a file begins with.
use Rattle.std.specs.Prelude.{◌≡◌, List, ◌∷◌, ℕ, ◌+◌, ◌≤◌}
use Rattle.laws.specs.Cells.{part}
use Rattle.policy.specs.Fields.{header, field, pieces}

-- the part from `at` to `end` begins with a whole field, which ends at `next`
pub record WholeAt (f : List ℕ) (at end tag next : ℕ) : Type 0 where
  pub past : at + header ≤ next
  pub inside : next ≤ end
  pub here : pieces (part f at end) ≡ field tag (part f (at + header) next) ∷ pieces (part f next end)
