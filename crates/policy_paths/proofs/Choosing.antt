-- A turn of the loop that chooses. Assumes nothing.
use mathlib.Core.Path.{◌≡◌, refl, sym, ap, ◌∙◌}
use mathlib.Core.Bool.{Bool, true, false, not, cond, ◌&&◌}
use mathlib.Core.List.{List}
use Prim.Native.Nat.{ℕ, zero, suc, ◌+◌, ◌≤◌, ◌<◌}
use native.Mathlib.Omega.{arith}
use lib.Dec.{eqb, leb}
use borrow.Author.Tests.{le-leb, lt-leb, not-true, not-false}
use Rattle.laws.proofs.Bools.{split, and_l}
use Rattle.access.specs.Limits.{max_entries}
use Rattle.tables.specs.Tables.{object, live}
use Rattle.sound_tree.proofs.Facts.{tree}
use Rattle.names.specs.Paths.{path_of}
use Rattle.names.proofs.Facts.{names}
use Rattle.policy_write.specs.Order.{earlier}
use Rattle.policy_write.specs.Chosen.{is_entry_of, goes_first, chosen_below, chosen}
use Rattle.path_order.specs.Parting.{ordered}
use Rattle.path_order.proofs.Parting.{in_order}
use Rattle.policy_paths.specs.Rooted.{Rooted}

module _ (es ns : List ℕ) where
  pub first-none : (e c : ℕ) → max_entries ≤ c → true ≡ goes_first es ns e c
  unfolding goes_first
  first-none e c h = rw (le-leb max_entries c h) refl

  pub first_by : Rooted es ns → (e c : ℕ) → c < max_entries → live es e ≡ true → live es c ≡ true → ordered es ns e c ≡ goes_first es ns e c
  unfolding goes_first
  first_by R e c h l k = rw (lt-leb max_entries c h) (in_order es ns R.next (tree es R.next R.long R.entries) (names es ns R.names) e c l k)

  module _ (o e c : ℕ) where
    pub not_entry : not (is_entry_of es o e) ≡ true → c ≡ cond (is_entry_of es o e && goes_first es ns e c) e c
    not_entry a = rw (not-true (is_entry_of es o e) a) refl

    module _ (a : not (is_entry_of es o e) ≡ false) where
      pub now_first : goes_first es ns e c ≡ true → e ≡ cond (is_entry_of es o e && goes_first es ns e c) e c
      now_first b = rw (not-false (is_entry_of es o e) a, b) refl

      pub not_first : goes_first es ns e c ≡ false → c ≡ cond (is_entry_of es o e && goes_first es ns e c) e c
      not_first b = rw (not-false (is_entry_of es o e) a, b) refl

  -- a turn of the loop
  pub chosen_on : (o e : ℕ) {c d : ℕ} → c ≡ chosen_below es ns o e → d ≡ cond (is_entry_of es o e && goes_first es ns e c) e c → d ≡ chosen_below es ns o (e + 1)
  unfolding chosen_below
  chosen_on o e p q = let s : e + 1 ≡ suc e = omega arith in rw (s, ← p) q

  pub chosen_none : (o : ℕ) → max_entries ≡ chosen_below es ns o 0
  unfolding chosen_below
  chosen_none o = refl

  pub chosen-all : (o n : ℕ) → n ≡ max_entries → {c : ℕ} → c ≡ chosen_below es ns o n → c ≡ chosen es ns o
  unfolding chosen
  chosen-all o n z q = q ∙ ap (chosen_below es ns o) z

  pub chosen_live : (o n : ℕ) → chosen_below es ns o n < max_entries → live es (chosen_below es ns o n) ≡ true
  unfolding chosen_below is_entry_of
  chosen_live o zero h = absurd (omega arith)
  chosen_live o (suc e) h = split (is_entry_of es o e && goes_first es ns e (chosen_below es ns o e))
      (λ q. rw q (and_l (live es e) _ (and_l (is_entry_of es o e) _ q)))
      (λ q. rw q (chosen_live o e (rw q at h)))

-- a live entry of the object, or none
pub entry-is : (es : List ℕ) (o e : ℕ) {l : Bool} → l ≡ live es e → l ≡ true → {x : ℕ} → x ≡ object es e → eqb x o ≡ is_entry_of es o e
unfolding is_entry_of
entry-is es o e p q r = rw (← p, q, r) refl

pub entry_not : (es : List ℕ) (o e : ℕ) {l : Bool} → l ≡ live es e → l ≡ false → false ≡ is_entry_of es o e
unfolding is_entry_of
entry_not es o e p q = rw (← p, q) refl

pub entry-live : (es : List ℕ) (o e : ℕ) → is_entry_of es o e ≡ true → live es e ≡ true
unfolding is_entry_of
entry-live es o e h = and_l (live es e) _ h
