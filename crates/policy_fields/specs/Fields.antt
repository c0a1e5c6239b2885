-- What the reader of a field tells of the part of a file from `at` to `end`.
use Rattle.std.specs.Prelude.{◌≡◌, List, [], ◌∷◌, ℕ}
use Rattle.laws.specs.Cells.{part}
use Rattle.policy.specs.Fields.{stray, pieces}
use Rattle.policy.specs.Front.{WholeAt}
use Rattle.policy_fields.specs.declared.Field.{Field}
use Rattle.policy_fields.specs.declared.Field.TheVariants.{Whole, Cut}

-- it begins with a whole field, or it is none
abbrev pub FieldIs : List ℕ → ℕ → ℕ → Field → Type 0
FieldIs f at end (Whole t n) = WholeAt f at end t n
FieldIs f at end Cut = pieces (part f at end) ≡ stray (part f at end) ∷ []
