-- The form of a row with a name in it, as the test reads it: by pairs of neighbours.
use Rattle.std.specs.Prelude.{Bool, not, ◌&&◌, ◌||◌, List, [], ◌∷◌, ℕ, suc, eqb, leb, get_or}
use Rattle.laws.specs.Tests.{all_below, all_of}
use Rattle.names.specs.Names.{max_name, slash, dot}

-- byte b may follow byte a: it is no slash, and after a zero comes a zero
unfoldable pub fitting : ℕ → ℕ → Bool
fitting a b = not (eqb b slash) && (not (eqb a 0) || eqb b 0)

unfoldable pub fitting_pairs : List ℕ → Bool
fitting_pairs row = all_below (λ k. fitting (get_or row k 0) (get_or row (suc k) 0)) max_name

-- byte n is the last that is not 0, if pairs fit
unfoldable pub ends_at : List ℕ → ℕ → Bool
ends_at row n = all_of (not (eqb (get_or row n 0) 0) ∷ eqb (get_or row (suc n) 0) 0 ∷ [])

-- the name, of n bytes, is "." or ".."
unfoldable pub is_dots : List ℕ → ℕ → Bool
is_dots row n = eqb (get_or row 1 0) dot && (eqb n 1 || (eqb n 2 && eqb (get_or row 2 0) dot))

unfoldable pub form_sound : List ℕ → Bool
form_sound row = let n = get_or row 0 0 in all_of (not (eqb n 0) ∷ leb n max_name ∷ fitting_pairs row ∷ ends_at row n ∷ not (is_dots row n) ∷ [])
