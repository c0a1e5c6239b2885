-- What the test of every entry tells of all names. Assumes nothing.
use mathlib.Core.Path.{◌≡◌, sym}
use mathlib.Core.Bool.{true, false}
use mathlib.Core.List.{List}
use Prim.Native.Nat.{ℕ, ◌+◌, ◌*◌, ◌≤◌, ◌<◌}
use native.Mathlib.Omega.{arith}
use lib.ListN.{length}
use Rattle.laws.specs.Tests.{all_below}
use Rattle.laws.proofs.Tests.{all_more, all_done}
use Rattle.access.specs.Limits.{max_entries}
use Rattle.names.specs.Names.{name_width, row_sound, unlike, names_sound}
use Rattle.sound_names_rows.proofs.Twins.{all_sound, one_fails}
use Rattle.sound_names_chains.specs.Chains.{ChainedBelow, Indexed, IsAdded}
use Rattle.sound_names_chains.specs.declared.Tested.{Tested}
use Rattle.sound_names_chains.specs.declared.Tested.TheVariants.{Left, Unsound}

module _ (es ns : List ℕ) where
  -- the rows below e are sound, and as long as a step is left, the names are unique, and in the index
  abbrev pub Done : List ℕ → List ℕ → ℕ → ℕ → Type 0
  Done heads links left e = (all_below (row_sound es ns) e ≡ true) × ((left ≡ 0 → ⊥) → (all_below (unlike es ns) e ≡ true) × ChainedBelow es ns heads links e)

  pub done_more : {heads links next more : List ℕ} {t : Tested} {n left : ℕ} (e : ℕ) → Done heads links left e → IsAdded es ns next more left e t → t ≡ Left n → Done next more n (e + 1)
  unfolding IsAdded
  done_more e d h q = let a = rw q at h in (
    all_more (row_sound es ns) e d.0 a.0,
    λ z. let k = a.1 z in (all_more (unlike es ns) e (d.1 k.0.0).0 k.0.1, k.1),
  )

  pub done_all : {heads links : List ℕ} {left : ℕ} (e : ℕ) → length ns ≡ name_width * max_entries → e ≤ max_entries → max_entries ≤ e → (left ≡ 0 → ⊥) → Done heads links left e → Indexed es ns heads links
  done_all e w a b z d = let q : e ≡ max_entries = omega arith in (all_sound es ns e w a b d.0 (d.1 z).0, rw q at (d.1 z).1)

  pub done_rows : {heads links : List ℕ} {left : ℕ} (e : ℕ) → e ≤ max_entries → max_entries ≤ e → Done heads links left e → all_below (row_sound es ns) max_entries ≡ true
  done_rows e a b d = sym (all_done (row_sound es ns) max_entries e a b d.0)

  pub done_fails : (heads links : List ℕ) {t : Tested} (left e : ℕ) → e < max_entries → IsAdded es ns heads links left e t → t ≡ Unsound → names_sound es ns ≡ false
  unfolding IsAdded
  done_fails heads links left e k h q = one_fails es ns e k (rw q at h)
