-- What the code of each call wrote comes to the call's change and to its answer. Assumes nothing.
use mathlib.Core.Path.{◌≡◌, refl, sym, ap, ◌∙◌}
use mathlib.Core.Bool.{true, not}
use mathlib.Core.List.{List, [], ◌∷◌}
use Prim.Native.Nat.{ℕ, suc, ◌+◌, ◌-◌, ◌≤◌}
use native.Mathlib.Omega.{arith}
use lib.Dec.{eqb}
use borrow.Author.Tests.{ne_eqb}
use Rattle.laws.specs.Refusals.{◌⇒◌, first}
use Rattle.laws.proofs.Bools.{split}
use Rattle.laws.specs.Cells.{put_cell}
use Rattle.access.specs.Errno.{EIO}
use Rattle.access.specs.declared.errno.Reply.TheVariants.{Done}
use Rattle.access.specs.Limits.{max_layers, max_threads}
use Rattle.tables.specs.Tables.{Tables, tables, layer_width, thread_width, youngest}
use Rattle.tables.specs.Layers.{layer_at, layer_holders}
use Rattle.tables.specs.Outcome.{Outcome, outcome, error_of, answer, with_threads}
use Rattle.tables.proofs.Outcomes.{answer-done}
use Rattle.sound.specs.Sound.{sound}
use Rattle.sound.specs.Call.{call}
use Rattle.sound_domains.proofs.Hierarchy.{holders-few}
use Rattle.sound.proofs.Facts.{facts}
use Rattle.domain.specs.Threads.{free_thread, copied_thread, held_more, clone_checks, clone_done, mark_checks, mark_done}
use Rattle.domain.specs.Layer.{layer_checks, layer_read, layer_code, layer_part}

-- ---- one holder more
-- sound tables leave room for it
pub few-held : (T : Tables) → sound T ≡ true → (l : ℕ) → layer_holders T.layers l ≤ max_threads + max_layers
few-held T h = let S = facts T h in holders-few T.layers T.threads S.hierarchy S.lengths.layers

more_cons : (ls : List ℕ) (l : ℕ) → held_more ls (suc l) ≡ put_cell ls layer_width l 6 (layer_holders ls l + 1)
unfolding held_more
more_cons ls l = refl

module _ (ls : List ℕ) (y : ℕ) where
  pub more_none : y ≡ 0 → ls ≡ held_more ls y
  unfolding held_more
  more_none z = rw z refl

  pub more_one : (y ≡ 0 → ⊥) → {n : ℕ} {ls' : List ℕ} → n ≡ layer_holders ls (y - 1) → ls' ≡ put_cell ls layer_width (y - 1) 6 (n + 1) → ls' ≡ held_more ls y
  more_one d q h = let e : y ≡ suc (y - 1) = omega arith in h ∙ rw q (sym (ap (held_more ls) e ∙ more_cons ls (y - 1)))

-- ---- threads
pub clone-done : (T : Tables) (t : ℕ) {e u y : ℕ} {ls ts : List ℕ} → e ≡ first (clone_checks T t) → e ≡ 0 → u ≡ free_thread T.threads → ts ≡ copied_thread T.threads u t
    → y ≡ youngest T.threads t → ls ≡ held_more T.layers y
    → outcome (Done u) (tables T.system T.entries T.rulesets ls T.pool ts) ≡ answer T (clone_checks T t) (clone_done T t)
unfolding clone_done
clone-done T t q z f h k m = rw (m, k, h, f) (answer-done T (clone_checks T t) (clone_done T t) q z)

pub mark_done_lem : (T : Tables) (t k v : ℕ) {e : ℕ} {ts : List ℕ} → e ≡ first (mark_checks T t) → e ≡ 0 → ts ≡ put_cell T.threads thread_width t k v → outcome (Done 0) (with_threads T ts) ≡ answer T (mark_checks T t) (mark_done T t k v)
unfolding mark_done
mark_done_lem T t k v q z h = rw h (answer-done T (mark_checks T t) (mark_done T t k v) q z)

-- ---- one layer's rules
module _ (T : Tables) (l : ℕ) where
  pub code_is : {o : Outcome} → o ≡ layer_read T l → error_of o.reply ≡ layer_code T l
  unfolding layer_code
  code_is h = ap (λ (o : Outcome). error_of o.reply) h

  pub read_left : T ≡ (layer_read T l).left
  unfolding layer_read call answer
  read_left = split (eqb (first (not (sound T) ⇒ EIO ∷ layer_checks T l)) 0) (λ q. rw q refl) (λ q. rw q refl)

module _ (T : Tables) (l : ℕ) {c : ℕ} (q : c ≡ layer_code T l) where
  pub part_none : (c ≡ 0 → ⊥) → [] ≡ layer_part T l
  unfolding layer_part
  part_none n = rw (← q, ne_eqb c 0 n)

  pub part-whole : {xs : List ℕ} → c ≡ 0 → xs ≡ (layer_at T.layers T.pool l).rules → xs ≡ layer_part T l
  unfolding layer_part
  part-whole z h = rw (← q, z) h
