-- Where a ruleset's masks are in its part of a file.
use Rattle.std.specs.Prelude.{◌≡◌, List, ℕ, ◌≤◌, length}
use Rattle.laws.specs.Cells.{part}
use Rattle.policy.specs.Meaning.{masks_of}
use Rattle.policy.specs.declared.Span.{Span}

pub record MasksAt (f : List ℕ) (s : Span) : Type 0 where
  pub ordered : s.at ≤ s.end
  pub inside : s.end ≤ length f
  pub bytes : part f s.at s.end ≡ masks_of f
