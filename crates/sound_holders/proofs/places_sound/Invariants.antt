-- The invariant: every layer below `l` passed.
use mathlib.Core.Path.{◌≡◌}
use mathlib.Core.Bool.{true}
use Rattle.laws.specs.Tests.{all_below}
use Rattle.sound_domains.specs.Counting.{Depths, place_counted}
use Rattle.sound_holders.proofs.places_sound.Given as goal

abbrev pub invariant-loop-l : goal.invariant-loop-l
invariant-loop-l l = (all_below (place_counted l.layers l.counts) l.l ≡ true) × Depths l.layers l.depths l.l
