-- Where a ruleset's part lies.
use Rattle.std.specs.Prelude.{List, ℕ, ◌≤◌, length}
use Rattle.policy.specs.Find.{bytes_in}
use Rattle.policy.specs.declared.Span.{Span}
use Rattle.policy.specs.declared.Found.{Found}
use Rattle.policy.specs.declared.Found.TheVariants.{At, TooBig, Damaged, Missing}

-- in a file
abbrev pub Inside : List ℕ → Span → Type 0
Inside f s = (s.at ≤ s.end) × (s.end ≤ length f)

-- in the file that it is found in
abbrev pub Within : List ℕ → List ℕ → Found → Type 0
Within stock site (At file s) = Inside (bytes_in stock site file) s
Within stock site (TooBig file) = Unit {0}
Within stock site (Damaged file p) = Unit {0}
Within stock site Missing = Unit {0}
