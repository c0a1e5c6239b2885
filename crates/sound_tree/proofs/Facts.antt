-- What it tells that the entries are sound, clause by clause, and the way back. Assumes nothing.
use mathlib.Core.Path.{◌≡◌, refl, sym, ap, ◌∙◌}
use mathlib.Core.Bool.{true, false, not, ◌&&◌}
use mathlib.Core.List.{List, [], ◌∷◌}
use Prim.Native.Nat.{ℕ, ◌+◌, ◌*◌, ◌≤◌, ◌<◌}
use native.Mathlib.Omega.{arith}
use lib.Dec.{eqb, ltb}
use lib.ListN.{length}
use borrow.Author.Tests.{eqb-true, eq-eqb, ltb-true, ltb-false, lt-ltb, leb-true, le-leb, not-true}
use Rattle.laws.specs.Tests.{all_below, all_of}
use Rattle.laws.proofs.Bools.{and_l, and_r, both, not_of_false, clash, split, cond_then, cond_else, cond_of}
use Rattle.laws.proofs.Tests.{all-at, all_of_lem, all_of-at, all_of_of, met, ◌also◌}
use Rattle.laws.proofs.Cells.{past}
use Rattle.access.specs.Kinds.{directory, last_kind}
use Rattle.access.specs.Limits.{max_entries}
use Rattle.tables.specs.Tables.{entry_width, kind, parent, object, live, is_dir}
use Rattle.sound_objects.proofs.Live.{same_dir}
use Rattle.sound_tree.specs.Tree.{root_sound, reaches, live_sound, free_sound, entry_sound, same_object, link_sound, links_sound, entries_sound}

-- entries of one object
pub record Agreed (es : List ℕ) : Type 0 where
  -- "entries of one object agree in kind"
  pub kinds_agree_lem : (e f : ℕ) → live es e ≡ true → live es f ≡ true → object es e ≡ object es f → kind es e ≡ kind es f
  -- "a directory object has one entry"
  pub one_dir : (e f : ℕ) → live es e ≡ true → live es f ≡ true → object es e ≡ object es f → is_dir es e ≡ true → e ≡ f

pub record Tree (es : List ℕ) (next : ℕ) : Type 0 where
  -- "table lengths are right"
  pub long : length es ≡ entry_width * max_entries
  -- "entry 0 is as above": a directory, object 0, its own parent
  pub root_dir : kind es 0 ≡ directory
  pub root_top : parent es 0 ≡ 0
  pub root_object : object es 0 ≡ 0
  -- a live entry has a row of the table
  pub small : (e : ℕ) → live es e ≡ true → e < max_entries
  -- "kinds .. are in range"
  pub kinds : (e : ℕ) → live es e ≡ true → kind es e ≤ last_kind
  -- "each live parent is a live directory"
  pub in_dir : (e : ℕ) → live es e ≡ true → is_dir es (parent es e) ≡ true
  -- "objects lie below the counter"
  pub objects : (e : ℕ) → live es e ≡ true → object es e < next
  -- "climbing ends at 0"
  pub tops : (e : ℕ) → live es e ≡ true → reaches es max_entries e ≡ true
  -- "free space is zero": a free row has kind 0
  pub free : (e : ℕ) → live es e ≡ false → (parent es e ≡ 0) × (object es e ≡ 0)
  pub agreed : Agreed es

-- two entries of one object
linked : (es : List ℕ) (e f : ℕ) → link_sound es e f ≡ true → live es e ≡ true → live es f ≡ true → object es e ≡ object es f
    → (kind es e ≡ kind es f) × (is_dir es e ≡ false)
unfolding link_sound same_object
linked es e f h a b o =
    let s : same_object es e f ≡ true = both (eqb (object es e) (object es f)) _ (eq-eqb (object es e) (object es f) o) (both (live es e) (live es f) a b) in
    let k : all_of (eqb (kind es e) (kind es f) ∷ not (is_dir es e) ∷ []) ≡ true = cond_then (same_object es e f) _ true s h in
    (eqb-true (kind es e) (kind es f) (all_of-at _ 0 k), not-true (is_dir es e) (all_of-at _ 1 k))

module _ (es : List ℕ) (w : length es ≡ entry_width * max_entries) where
  pub in_table : (e : ℕ) → live es e ≡ true → e < max_entries
  unfolding live
  in_table e l = split (ltb e max_entries) (ltb-true e max_entries)
      (λ q. let g : max_entries ≤ e = ltb-false e max_entries q in
      clash (live es e) l (ap not (eq-eqb (kind es e) 0 (sym (past es (3 * e + 0) (omega arith))))))

  module _ (next : ℕ) (each : all_below (entry_sound es next) max_entries ≡ true) where
    alive : (e : ℕ) → live es e ≡ true → live_sound es next e ≡ true
    unfolding entry_sound
    alive e l = cond_then (live es e) (live_sound es next e) (free_sound es e) l (all-at (entry_sound es next) max_entries e each (in_table e l))

    vacant : (e : ℕ) → live es e ≡ false → (parent es e ≡ 0) × (object es e ≡ 0)
    unfolding entry_sound free_sound
    vacant e l = split (ltb e max_entries)
        (λ q.
        let k : free_sound es e ≡ true = cond_else (live es e) (live_sound es next e) (free_sound es e) l (all-at (entry_sound es next) max_entries e each (ltb-true e max_entries q)) in
        (eqb-true (parent es e) 0 (all_of-at _ 0 k), eqb-true (object es e) 0 (all_of-at _ 1 k)))
        (λ q. let g : max_entries ≤ e = ltb-false e max_entries q in (sym (past es (3 * e + 1) (omega arith)), sym (past es (3 * e + 2) (omega arith))))

  module _ (pairs : all_below (links_sound es) max_entries ≡ true) where
    -- the later of two entries was held against the earlier
    pair : (e f : ℕ) → f < e → live es e ≡ true → live es f ≡ true → object es e ≡ object es f → (kind es e ≡ kind es f) × (is_dir es e ≡ false)
    unfolding links_sound
    pair e f h a b o = linked es e f (all-at (link_sound es e) e f (all-at (links_sound es) max_entries e pairs (in_table e a)) h) a b o

    agreeing : Agreed es
    agreeing =
        record {
          kinds_agree_lem = λ e f a b o. split (ltb f e) (λ q. (pair e f (ltb-true f e q) a b o).0)
              (λ q. split (ltb e f) (λ p. sym (pair f e (ltb-true e f p) b a (sym o)).0)
              (λ p. let g = ltb-false f e q in let k = ltb-false e f p in ap (kind es) (omega arith)));
          one_dir = λ e f a b o d. split (ltb f e) (λ q. clash (is_dir es e) d (pair e f (ltb-true f e q) a b o).1)
              (λ q. split (ltb e f)
              (λ p. let r = pair f e (ltb-true e f p) b a (sym o) in clash (is_dir es e) d (same_dir es e f (sym r.0) ∙ r.1))
              (λ p. let g = ltb-false f e q in let k = ltb-false e f p in omega arith));
        }

pub tree : (es : List ℕ) (next : ℕ) → length es ≡ entry_width * max_entries → entries_sound es next ≡ true → Tree es next
unfolding entries_sound root_sound live_sound
tree es next w h =
    let root : root_sound es ≡ true = all_of-at _ 0 h in
    let each : all_below (entry_sound es next) max_entries ≡ true = all_of-at _ 1 h in
    let pairs : all_below (links_sound es) max_entries ≡ true = all_of-at _ 2 h in
    record {
      long = w;
      root_dir = eqb-true (kind es 0) directory (all_of-at _ 0 root);
      root_top = eqb-true (parent es 0) 0 (all_of-at _ 1 root);
      root_object = eqb-true (object es 0) 0 (all_of-at _ 2 root);
      small = in_table es w;
      kinds = λ e l. leb-true (kind es e) last_kind (all_of-at _ 0 (alive es w next each e l));
      in_dir = λ e l. all_of-at _ 1 (alive es w next each e l);
      objects = λ e l. ltb-true (object es e) next (all_of-at _ 2 (alive es w next each e l));
      tops = λ e l. all_of-at _ 3 (alive es w next each e l);
      free = vacant es w next each;
      agreed = agreeing es w pairs;
    }

-- ---- the way back
module _ (es : List ℕ) (next : ℕ) (Z : Tree es next) where
  entry_of : (e : ℕ) → entry_sound es next e ≡ true
  unfolding entry_sound live_sound free_sound
  entry_of e = cond_of (live es e) (live_sound es next e) (free_sound es e)
      (λ l. all_of_of (le-leb (kind es e) last_kind (Z.kinds e l) also Z.in_dir e l also lt-ltb (object es e) next (Z.objects e l) also Z.tops e l also met))
      (λ l. let z = Z.free e l in all_of_of (eq-eqb (parent es e) 0 z.0 also eq-eqb (object es e) 0 z.1 also met))

  link_of : (e f : ℕ) → f < e → link_sound es e f ≡ true
  unfolding link_sound same_object
  link_of e f h = cond_of (same_object es e f) _ true
      (λ s.
      let o : object es e ≡ object es f = eqb-true (object es e) (object es f) (and_l (eqb (object es e) (object es f)) (live es e && live es f) s) in
      let m = and_r (eqb (object es e) (object es f)) (live es e && live es f) s in
      let a = and_l (live es e) (live es f) m in
      let b = and_r (live es e) (live es f) m in
      all_of_of
      (eq-eqb (kind es e) (kind es f) (Z.agreed.kinds_agree_lem e f a b o)
      also split (is_dir es e) (λ d. absurd (let q = Z.agreed.one_dir e f a b o d in omega arith)) (not_of_false (is_dir es e))
      also met))
      (λ s. refl)

  links_of : (e : ℕ) → links_sound es e ≡ true
  unfolding links_sound
  links_of e = all_of_lem (link_sound es e) e (link_of e)

pub tree-sound : (es : List ℕ) (next : ℕ) → Tree es next → entries_sound es next ≡ true
unfolding entries_sound root_sound
tree-sound es next Z = all_of_of
    (all_of_of (eq-eqb (kind es 0) directory Z.root_dir also eq-eqb (parent es 0) 0 Z.root_top also eq-eqb (object es 0) 0 Z.root_object also met)
    also all_of_lem (entry_sound es next) max_entries (λ e h. entry_of es next Z e)
    also all_of_lem (links_sound es) max_entries (λ e h. links_of es next Z e)
    also met)
