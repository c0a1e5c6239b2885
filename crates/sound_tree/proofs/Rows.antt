-- How code comes to the tests of an entry and of two entries, from the cells that it reads. Assumes nothing.
use mathlib.Core.Path.{◌≡◌, refl, sym, ap, ◌∙◌}
use mathlib.Core.Bool.{Bool, true, false, ◌&&◌}
use mathlib.Core.List.{List, [], ◌∷◌}
use Prim.Native.Nat.{ℕ, ◌+◌, ◌*◌, ◌≤◌, ◌<◌}
use native.Mathlib.Omega.{arith}
use lib.Dec.{eqb, ltb, leb}
use lib.ListN.{length}
use borrow.Author.Tests.{eq-eqb, eqb-true, ltb-true, ltb-false}
use Rattle.laws.specs.Tests.{all_below, all_of}
use Rattle.laws.proofs.Bools.{and_l, and_r, split, agree, cond_then, cond_else, cond_of}
use Rattle.laws.proofs.Cells.{past}
use Rattle.laws.proofs.Tests.{all-at, all_of_lem, all_fails, all_of-at, all_of_of, met, ◌also◌}
use Rattle.access.specs.Kinds.{directory, last_kind}
use Rattle.access.specs.Limits.{max_entries}
use Rattle.tables.specs.Tables.{entry_width, kind, parent, object, live, is_dir}
use Rattle.sound_objects.specs.Rows.{Ends}
use Rattle.sound_objects.proofs.Live.{first, first_kind, live_no, live_yes}
use Rattle.sound_objects.proofs.Rows.{free-kind}
use Rattle.sound_tree.specs.Tree.{root_sound, entry_sound, live_sound, free_sound, parent_is_dir, object_below, climb_ends, same_object, link_sound, links_sound, entries_sound}
use Rattle.sound_tree.specs.Fast.{row_sound, live_climb_ends, ParentsLive, kinds_agree}
use Rattle.sound_tree.proofs.Facts.{in_table}

-- ---- a directory
module _ (es : List ℕ) (e : ℕ) where
  pub dir_past : length es ≡ entry_width * max_entries → max_entries ≤ e → is_dir es e ≡ false
  unfolding is_dir
  dir_past w h = ap (λ (k : ℕ). eqb k directory) (sym (past es (entry_width * e + 0) (omega arith)))

  pub dir_cell : eqb (first es e) directory ≡ is_dir es e
  unfolding is_dir
  dir_cell = ap (λ (k : ℕ). eqb k directory) (first_kind es e)

-- ---- an entry
module _ (es : List ℕ) (next e : ℕ) where
  pub row_free : {r : Bool} → first es e ≡ 0 → r ≡ free_sound es e → r ≡ row_sound es next e
  unfolding row_sound
  row_free h k = rw (live_no es e h) k

  pub row_live : {r : Bool} → (first es e ≡ 0 → ⊥) → r ≡ all_of (leb (first es e) last_kind ∷ parent_is_dir es e ∷ object_below es next e ∷ []) → r ≡ row_sound es next e
  unfolding row_sound
  row_live h k = rw (live_yes es e h, ← first_kind es e) k

  -- a row past the end
  pub row_past : {end : ℕ} → Ends es end → end ≤ e → row_sound es next e ≡ true
  unfolding row_sound free_sound
  row_past E h = rw (free-kind es E e h)
      (all_of_of
      (eq-eqb (parent es e) 0 (E.1.1 (entry_width * e + 1) (omega arith))
      also eq-eqb (object es e) 0 (E.1.1 (entry_width * e + 2) (omega arith))
      also met))

  -- its row and its climb
  whole-entry : row_sound es next e ≡ true → live_climb_ends es e ≡ true → entry_sound es next e ≡ true
  unfolding row_sound live_climb_ends entry_sound live_sound
  whole-entry h k = cond_of (live es e) (live_sound es next e) (free_sound es e)
      (λ l.
      let r = cond_then (live es e) _ (free_sound es e) l h in
      all_of_of (all_of-at _ 0 r also all_of-at _ 1 r also all_of-at _ 2 r also cond_then (live es e) (climb_ends es e) true l k also met))
      (λ l. cond_else (live es e) _ (free_sound es e) l h)

  entry_row : entry_sound es next e ≡ true → row_sound es next e ≡ true
  unfolding row_sound entry_sound live_sound
  entry_row h = cond_of (live es e) _ (free_sound es e)
      (λ l. let s = cond_then (live es e) (live_sound es next e) (free_sound es e) l h in all_of_of (all_of-at _ 0 s also all_of-at _ 1 s also all_of-at _ 2 s also met))
      (λ l. cond_else (live es e) (live_sound es next e) (free_sound es e) l h)

  entry_climb : entry_sound es next e ≡ true → live_climb_ends es e ≡ true
  unfolding live_climb_ends entry_sound live_sound
  entry_climb h = cond_of (live es e) (climb_ends es e) true
      (λ l. all_of-at _ 3 (cond_then (live es e) (live_sound es next e) (free_sound es e) l h))
      (λ l. refl)

-- ---- its climb
module _ (es : List ℕ) (e : ℕ) where
  pub climb_free : live es e ≡ false → live_climb_ends es e ≡ true
  unfolding live_climb_ends
  climb_free l = rw l

  pub climb_live : (first es e ≡ 0 → ⊥) → live_climb_ends es e ≡ climb_ends es e
  unfolding live_climb_ends
  climb_live h = rw (live_yes es e h)

-- ---- an entry against those before it
module _ (es : List ℕ) (e : ℕ) where
  same-is : (f : ℕ) → same_object es e f ≡ true → (live es f ≡ true) × (object es f ≡ object es e)
  unfolding same_object
  same-is f s =
      let m = and_r (eqb (object es e) (object es f)) (live es e && live es f) s in
      (and_r (live es e) (live es f) m, sym (eqb-true (object es e) (object es f) (and_l (eqb (object es e) (object es f)) (live es e && live es f) s)))

  link-same : (f : ℕ) → live es e ≡ true → live es f ≡ true → object es f ≡ object es e → link_sound es e f ≡ kinds_agree (kind es e) (kind es f)
  unfolding link_sound same_object is_dir kinds_agree
  link-same f l k q = rw (eq-eqb (object es e) (object es f) (sym q), l, k)

  link_by : (f : ℕ) → (live es f ≡ true → object es f ≡ object es e → kinds_agree (kind es e) (kind es f) ≡ true) → link_sound es e f ≡ true
  unfolding link_sound is_dir kinds_agree
  link_by f h = cond_of (same_object es e f) (kinds_agree (kind es e) (kind es f)) true (λ s. let m = same-is f s in h m.0 m.1) (λ s. refl)

  link-free : live es e ≡ false → (f : ℕ) → link_sound es e f ≡ true
  unfolding link_sound same_object
  link-free l f = split (eqb (object es e) (object es f)) (λ q. rw (q, l) refl) (λ q. rw q refl)

  pub links-free : live es e ≡ false → true ≡ links_sound es e
  unfolding links_sound
  links-free l = sym (all_of_lem (link_sound es e) e (λ f k. link-free l f))

  -- none before it has its object
  pub links-none : ((f : ℕ) → f < e → live es f ≡ true → object es f ≡ object es e → ⊥) → true ≡ links_sound es e
  unfolding links_sound
  links-none h = sym (all_of_lem (link_sound es e) e (λ f k. link_by f (λ l q. absurd (h f k l q))))

  -- those that have it are of the kind of entry f, one of them
  pub links-same : {r : Bool} (f : ℕ) → f < e → live es e ≡ true → live es f ≡ true → object es f ≡ object es e
      → ((j : ℕ) → j < e → live es j ≡ true → object es j ≡ object es e → kind es j ≡ kind es f) → r ≡ kinds_agree (kind es e) (kind es f) → r ≡ links_sound es e
  unfolding links_sound
  links-same f k l m q h z = z ∙ split (kinds_agree (kind es e) (kind es f))
      (λ y. y ∙ sym (all_of_lem (link_sound es e) e (λ j i. link_by j (λ a b. rw (h j i a b) y))))
      (λ y. y ∙ all_fails (link_sound es e) e f k (link-same f l m q ∙ y))

-- ---- all of them
-- a loop's end, where every number from the end on passes
pub all_past : (p : ℕ → Bool) (n end i : ℕ) → end ≤ i → all_below p i ≡ true → ((j : ℕ) → end ≤ j → p j ≡ true) → true ≡ all_below p n
all_past p n end i a h f = sym (all_of_lem p n (λ j k. split (ltb j i) (λ q. all-at p i j h (ltb-true j i q)) (λ q. f j (let g = ltb-false j i q in omega arith))))

module _ (es : List ℕ) (next : ℕ) where
  -- in the order in which the code tests them
  abbrev pub parts : List Bool
  parts = root_sound es ∷ all_below (row_sound es next) max_entries ∷ all_below (live_climb_ends es) max_entries ∷ all_below (links_sound es) max_entries ∷ []

  parts_sound_lem : all_of parts ≡ entries_sound es next
  unfolding entries_sound
  parts_sound_lem = agree (all_of parts) (entries_sound es next)
      (λ h.
      let rows : all_below (row_sound es next) max_entries ≡ true = all_of-at parts 1 h in
      let climbs : all_below (live_climb_ends es) max_entries ≡ true = all_of-at parts 2 h in
      all_of_of
      (all_of-at parts 0 h
      also all_of_lem (entry_sound es next) max_entries (λ e k. whole-entry es next e (all-at (row_sound es next) max_entries e rows k) (all-at (live_climb_ends es) max_entries e climbs k))
      also all_of-at parts 3 h
      also met))
      (λ h.
      let each : all_below (entry_sound es next) max_entries ≡ true = all_of-at _ 1 h in
      all_of_of
      (all_of-at _ 0 h
      also all_of_lem (row_sound es next) max_entries (λ e k. entry_row es next e (all-at (entry_sound es next) max_entries e each k))
      also all_of_lem (live_climb_ends es) max_entries (λ e k. entry_climb es next e (all-at (entry_sound es next) max_entries e each k))
      also all_of-at _ 2 h
      also met))

  pub by_parts : {r : Bool} → r ≡ all_of parts → r ≡ entries_sound es next
  by_parts k = k ∙ parts_sound_lem

  -- a live parent is a directory, and so is live and in the table
  pub parents-live : length es ≡ entry_width * max_entries → all_below (row_sound es next) max_entries ≡ true → ParentsLive es
  unfolding row_sound is_dir
  parents-live w h e l =
      let r = cond_then (live es e) _ (free_sound es e) l (all-at (row_sound es next) max_entries e h (in_table es w e l)) in
      let d : kind es (parent es e) ≡ directory = eqb-true (kind es (parent es e)) directory (all_of-at _ 1 r) in
      let k : live es (parent es e) ≡ true = live_yes es (parent es e) (λ z. let q = first_kind es (parent es e) in omega arith) in
      (in_table es w (parent es e) k, k)
