-- How code comes to the soundness test from its parts. Assumes nothing.
use mathlib.Core.Path.{◌≡◌, sym, ◌∙◌}
use mathlib.Core.Bool.{Bool, true, false, not}
use borrow.Author.Tests.{not-true, not-false}
use Rattle.tables.specs.Tables.{Tables, lengths_right}
use Rattle.sound.specs.Sound.{parts_sound, sound}

module _ (T : Tables) {b : Bool} (q : b ≡ lengths_right T) where
  pub sound-short : not b ≡ true → false ≡ sound T
  unfolding sound
  sound-short p = rw (sym q ∙ not-true b p)

  -- where the lengths are right
  pub long : not b ≡ false → lengths_right T ≡ true
  long p = sym q ∙ not-false b p

  pub sound-long : {r : Bool} → not b ≡ false → r ≡ parts_sound T → r ≡ sound T
  unfolding sound
  sound-long p k = rw (long p) k
