-- The flags of the pool's places tell whether runs are apart. Assumes nothing.
use mathlib.Core.Path.{◌≡◌, sym, ◌∙◌}
use mathlib.Core.Bool.{Bool, true, false, not, ◌||◌}
use mathlib.Core.List.{List}
use mathlib.Core.Logic.{inl, inr}
use Prim.Native.Nat.{ℕ, ◌+◌, ◌-◌, ◌≤◌, ◌<◌}
use native.Mathlib.Numerals.{add-one}
use native.Mathlib.Omega.{arith}
use lib.Dec.{eqb, ltb, leb}
use lib.ListN.{replicate}
use borrow.Author.Tests.{ltb-true, ltb-false, leb-true, leb-false, eqb-true, eqb-false, not-true}
use Rattle.laws.specs.Tests.{any_below}
use Rattle.laws.proofs.Bools.{not_of_false, split, either, clash, agree}
use Rattle.laws.proofs.Tests.{all-at, all_of_lem, any-start, none-at, none_of}
use Rattle.access.specs.Limits.{max_pool}
use Rattle.tables.specs.Layers.{layer_first, layer_count}
use Rattle.bitmap.specs.Bitmap.{flag, in_range, run_clear}
use Rattle.bitmap.proofs.Masks.{range_at, range_of}
use Rattle.bitmap.proofs.Flags.{flag-none}
use Rattle.sound_layers.specs.Layers.{runs_apart, run_sound}
use Rattle.sound_layers.specs.Runs.{RunsPlaced}
use Rattle.sound_layers.proofs.Facts.{Apart, runs_apart_lem, apart_back}

-- place p is in the run of layer m
abbrev pub in_run : List ℕ → ℕ → ℕ → Bool
in_run ls p m = in_range (layer_first ls m) (layer_count ls m) p

in_run_lem : (ls : List ℕ) (p m : ℕ) → in_run ls p m ≡ true → (layer_first ls m ≤ p) × (p < layer_first ls m + layer_count ls m)
in_run_lem ls p m = range_at (layer_first ls m) (layer_count ls m) p

past_run : (ls : List ℕ) (p m : ℕ) → in_run ls p m ≡ false → layer_first ls m ≤ p → layer_first ls m + layer_count ls m ≤ p
past_run ls p m h a =
    split (ltb p (layer_first ls m + layer_count ls m))
    (λ q. clash (in_run ls p m) (range_of (layer_first ls m) (layer_count ls m) p a (ltb-true p (layer_first ls m + layer_count ls m) q)) h)
    (λ q. ltb-false p (layer_first ls m + layer_count ls m) q)

-- the flags set are those of the places of the runs below l
abbrev pub Marked : List ℕ → List ℕ → ℕ → Type 0
Marked ls words l = (p : ℕ) → p < max_pool → flag words p ≡ any_below (in_run ls p) l

pub marked-none : (ls : List ℕ) (n : ℕ) → Marked ls (replicate n 0) 0
marked-none ls n p h = flag-none n p ∙ sym (any-start (in_run ls p))

module _ (ls words : List ℕ) (l : ℕ) (M : Marked ls words l) where
  pub marked_more : (after : List ℕ) → ((p : ℕ) → flag after p ≡ (flag words p || in_run ls p l)) → Marked ls after (l + 1)
  unfolding any_below
  marked_more after t p h = rw (add-one, t p, M p h)

  module _ (used : ℕ) (P : RunsPlaced ls used) (in_use : l < used) where
    abbrev first : ℕ
    first = layer_first ls l

    abbrev count : ℕ
    count = layer_count ls l

    abbrev clear : Bool
    clear = run_clear words first count

    -- where the run's flags are clear, no layer below has one of its places
    free : clear ≡ true → (p m : ℕ) → first ≤ p → p < first + count → m < l → in_run ls p m ≡ false
    free h p m a b c =
        let e : first + (p - first) ≡ p = omega arith in
        let z : not (flag words p) ≡ true = rw e at (all-at (λ k. not (flag words (first + k))) count (p - first) h (omega arith)) in
        let s = (P l in_use).1 in
        none-at (in_run ls p) l m (sym (M p (omega arith)) ∙ not-true _ z) c

    free-apart : clear ≡ true → (m : ℕ) → m < l → Apart ls l m
    free-apart h m c =
        let e = (P l in_use).2 in
        let f = (P m (omega arith)).2 in
        split (eqb count 0)
        (λ q. let z = eqb-true count 0 q in let y = e z in inl (omega arith))
        (λ q.
        let some = eqb-false count 0 q in
        split (eqb (layer_count ls m) 0)
        (λ r. let z = eqb-true (layer_count ls m) 0 r in let y = f z in inr (omega arith))
        (λ r.
        let many = eqb-false (layer_count ls m) 0 r in
        split (leb (first + count) (layer_first ls m))
        (λ s. inl (leb-true (first + count) (layer_first ls m) s))
        (λ s.
        let over = leb-false (first + count) (layer_first ls m) s in
        split (leb first (layer_first ls m))
        (λ t.
        let g = past_run ls (layer_first ls m) m (free h (layer_first ls m) m (leb-true first (layer_first ls m) t) over c) (omega arith) in
        absurd (omega arith))
        (λ t.
        let g = leb-false first (layer_first ls m) t in
        inr (past_run ls first m (free h first m (omega arith) (omega arith) c) (omega arith))))))

    apart-free : (m : ℕ) → Apart ls l m → (p : ℕ) → first ≤ p → p < first + count → in_run ls p m ≡ false
    apart-free m s p a b =
        split (in_run ls p m)
        (λ q. let x = in_run_lem ls p m q in absurd (either s (λ g. omega arith) (λ g. omega arith)))
        (λ q. q)

    pub run_clear_lem : clear ≡ run_sound ls l
    unfolding run_sound
    run_clear_lem =
        agree clear (run_sound ls l)
        (λ h. all_of_lem (runs_apart ls l) l (λ m c. apart_back ls l m (free-apart h m c)))
        (λ h. all_of_lem (λ k. not (flag words (first + k))) count (λ k b.
        let s = (P l in_use).1 in
        not_of_false _ (M (first + k) (omega arith) ∙ none_of (in_run ls (first + k)) l (λ m c.
        apart-free m (runs_apart_lem ls l m (all-at (runs_apart ls l) l m h c)) (first + k) (omega arith) (omega arith)))))
