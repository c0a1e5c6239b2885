-- What the test by chains tells of all names. Assumes nothing.
use mathlib.Core.Path.{◌≡◌, sym}
use mathlib.Core.Bool.{true, false}
use mathlib.Core.List.{List}
use Prim.Native.Nat.{ℕ, ◌*◌}
use lib.ListN.{length}
use borrow.Author.Tests.{ne_eqb}
use Rattle.laws.specs.Tests.{all_below}
use Rattle.laws.proofs.Tests.{all_of_no}
use Rattle.access.specs.Limits.{max_entries}
use Rattle.names.specs.Names.{name_width, row_sound, names_sound}
use Rattle.sound_names_chains.specs.Chains.{IndexedIf, IsTold}
use Rattle.sound_names_chains.specs.declared.Answer.{Answer}
use Rattle.sound_names_chains.specs.declared.Answer.TheVariants.{Sound, Unsound, Open}

module _ (es ns : List ℕ) where
  pub wrong_length : (length ns ≡ name_width * max_entries → ⊥) → false ≡ names_sound es ns
  unfolding names_sound
  wrong_length d = all_of_no _ 0 (ne_eqb (length ns) (name_width * max_entries) d)

  module _ (heads links : List ℕ) {t : Answer} (h : IsTold es ns heads links t) where
    pub told-sound : t ≡ Sound → (true ≡ names_sound es ns) × IndexedIf true es ns heads links
    unfolding IsTold
    told-sound q = let i = rw q at h in (sym i.0, λ z. i)

    pub told-unsound : t ≡ Unsound → false ≡ names_sound es ns
    unfolding IsTold
    told-unsound q = sym (rw q at h)

    pub told_open : t ≡ Open → all_below (row_sound es ns) max_entries ≡ true
    unfolding IsTold
    told_open q = rw q at h
