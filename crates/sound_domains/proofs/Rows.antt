-- How code comes to the test of a thread, from the cells that it reads. Assumes nothing.
use mathlib.Core.Path.{◌≡◌}
use mathlib.Core.Bool.{Bool}
use mathlib.Core.List.{List, [], ◌∷◌}
use Prim.Native.Nat.{ℕ, ◌*◌}
use native.Mathlib.Nat.{add-zero}
use lib.Dec.{eqb, leb}
use lib.ListN.{get_or}
use borrow.Author.Tests.{eq-eqb, ne_eqb}
use Rattle.laws.specs.Tests.{all_of}
use Rattle.tables.specs.Tables.{thread_width, no_new_privs, admin, thread_live}
use Rattle.sound_domains.specs.Domains.{youngest_in_use, domain_fits, live_sound, free_sound, thread_sound}

module _ (ls ts : List ℕ) (used t : ℕ) where
  -- the cell where the code reads whether the thread is live
  abbrev state : ℕ
  state = get_or ts (thread_width * t) 0

  pub thread-free : {r : Bool} → state ≡ 0 → r ≡ free_sound ts t → r ≡ thread_sound ls ts used t
  unfolding thread_sound thread_live
  thread-free h k = rw (add-zero (thread_width * t), eq-eqb state 0 h) k

  pub thread-live : {r : Bool} → (state ≡ 0 → ⊥)
      → r ≡ all_of (eqb state 1 ∷ youngest_in_use ts used t ∷ leb (no_new_privs ts t) 1 ∷ leb (admin ts t) 1 ∷ domain_fits ls ts t ∷ []) → r ≡ thread_sound ls ts used t
  unfolding thread_sound thread_live live_sound
  thread-live h k = rw (add-zero (thread_width * t), ne_eqb state 0 h) k
