-- How many entries an access reads: the fewest that leave no layer missing a right, else all. Assumes nothing.
use mathlib.Core.Path.{◌≡◌, refl, ap, ◌∙◌}
use mathlib.Core.Bool.{true, false, not, false≢true}
use mathlib.Core.List.{List, [], ◌∷◌}
use Prim.Native.Nat.{ℕ, zero, suc, ◌<◌, ◌≤◌}
use native.Mathlib.Omega.{arith}
use lib.Dec.{eqb, ltb}
use borrow.Author.Tests.{eqb-true, eqb-false, eq-eqb, ltb-true, ltb-false, not-true, not-false}
use Rattle.laws.specs.Tests.{any}
use Rattle.laws.proofs.Bools.{split, either, or_l, or_r, or_left, or_right, or_cases, nor, not_of_false}
use Rattle.laws.proofs.Tests.{first_passes, first_least}
use Rattle.access.specs.Limits.{max_entries}
use Rattle.access.specs.Rights.{meet, without}
use Rattle.tables.specs.Tables.{Tables, parent}
use Rattle.tables.specs.Layers.{Layer, layer_at}
use Rattle.judge.specs.Judge.{own_rights, granted, handled, missing}
use Rattle.judge.specs.Domain.{layer_lacks, lacks}
use Rattle.judge.specs.Read.{left_after, entries_up, layer_reads, largest, entries_read}
use Rattle.judge.proofs.Climbs.{without-none, reads_all, reads_bound, left-all}
use Rattle.theorems.specs.Read.{misses_after, EntriesRead}

module _ (es rules : List ℕ) where
  left-none : (k e : ℕ) → left_after es rules k e 0 ≡ 0
  unfolding left_after
  left-none zero e = refl
  left-none (suc k) e = ap (left_after es rules k (parent es e)) (without-none (own_rights es rules e)) ∙ left-none k (parent es e)

  -- what is not missing any more stays so
  left_more : (k n e m : ℕ) → k ≤ n → left_after es rules k e m ≡ 0 → left_after es rules n e m ≡ 0
  unfolding left_after
  left_more zero n e m b h = ap (left_after es rules n e) h ∙ left-none n e
  left_more (suc k) zero e m b h = absurd (omega arith)
  left_more (suc k) (suc n) e m b h = left_more k n (parent es e) (without m (own_rights es rules e)) (omega arith) h

module _ (T : Tables) (e m : ℕ) where
  abbrev es : List ℕ
  es = T.entries

  abbrev layer : ℕ → Layer
  layer l = layer_at T.layers T.pool l

  -- what layer l misses after k entries, and how many it reads
  abbrev left : ℕ → ℕ → ℕ
  left l k = left_after es (layer l).rules k e (meet m (handled (layer l)))

  abbrev reads : ℕ → ℕ
  reads l = layer_reads es (layer l) e m

  abbrev up : ℕ
  up = entries_up es max_entries e

  read_bound : (l : ℕ) → reads l ≤ up
  read_bound l = reads_bound es (layer l) e m

  -- a layer that denies nothing misses nothing after what it reads
  nothing_left : (l : ℕ) → missing es (layer l) e m ≡ 0 → left l (reads l) ≡ 0
  unfolding layer_reads missing granted
  nothing_left l z = split (ltb (reads l) up)
      (λ q. eqb-true (left l (reads l)) 0 (first_passes (λ k. eqb (left l k) 0) up (ltb-true (reads l) up q)))
      (λ q.
      let b = read_bound l in
      let n = ltb-false (reads l) up q in
      let s : reads l ≡ up = omega arith in
      ap (left l) s ∙ left-all es (layer l).rules max_entries e (meet m (handled (layer l))) ∙ z)

  none_misses : (D : List ℕ) (n : ℕ) → any (layer_lacks es T.layers T.pool e m) D ≡ false → largest reads D ≤ n → any (λ l. not (eqb (left l n) 0)) D ≡ false
  unfolding any layer_lacks largest
  none_misses [] n h b = refl
  none_misses (l ∷ D) n h b =
      let z : missing es (layer l) e m ≡ 0 = eqb-true (missing es (layer l) e m) 0 (not-false (eqb (missing es (layer l) e m) 0) (or_l (not (eqb (missing es (layer l) e m) 0)) (any (layer_lacks es T.layers T.pool e m) D) h)) in
      let g = left_more es (layer l).rules (reads l) n e (meet m (handled (layer l))) (omega arith) (nothing_left l z) in
      nor (not (eqb (left l n) 0)) (any (λ j. not (eqb (left j n) 0)) D) (ap not (eq-eqb (left l n) 0 g)) (none_misses D n (or_r (not (eqb (missing es (layer l) e m) 0)) (any (layer_lacks es T.layers T.pool e m) D) h) (omega arith))

  some_misses : (D : List ℕ) (k : ℕ) → k < largest reads D → any (λ l. not (eqb (left l k) 0)) D ≡ true
  unfolding any largest layer_reads
  some_misses [] k h = absurd (omega arith)
  some_misses (l ∷ D) k h = split (ltb k (reads l))
      (λ q. or_left (not (eqb (left l k) 0)) (any (λ j. not (eqb (left j k) 0)) D) (not_of_false (eqb (left l k) 0) (first_least (λ j. eqb (left l j) 0) up k (ltb-true k (reads l) q))))
      (λ q. let n = ltb-false k (reads l) q in or_right (not (eqb (left l k) 0)) (any (λ j. not (eqb (left j k) 0)) D) (some_misses D k (omega arith)))

  most : (D : List ℕ) → largest reads D ≤ up
  unfolding largest
  most [] = omega arith
  most (l ∷ D) = let b = read_bound l in let c = most D in omega arith

  all_read : (D : List ℕ) → any (layer_lacks es T.layers T.pool e m) D ≡ true → largest reads D ≡ up
  unfolding any layer_lacks largest
  all_read [] h = absurd (false≢true h)
  all_read (l ∷ D) h = either (or_cases (not (eqb (missing es (layer l) e m) 0)) (any (layer_lacks es T.layers T.pool e m) D) h)
      (λ q.
      let r = reads_all es (layer l) e m (eqb-false (missing es (layer l) e m) 0 (not-true (eqb (missing es (layer l) e m) 0) q)) in
      let c = most D in
      omega arith)
      (λ q. let r = all_read D q in let b = read_bound l in omega arith)

pub entries-read : EntriesRead
unfolding misses_after entries_read lacks
entries-read T D e m = record {
  enough = λ h. none_misses T e m D (largest (reads T e m) D) h (omega arith);
  fewest = λ k h. some_misses T e m D k h;
  all = λ h. all_read T e m D h;
}
