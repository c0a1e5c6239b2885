-- What the end of a thread leaves, as a whole. Assumes nothing.
use mathlib.Core.Path.{◌≡◌, refl, sym, ap, ◌∙◌}
use mathlib.Core.Bool.{Bool, true, false, cond, not, ◌&&◌}
use mathlib.Core.List.{List}
use Prim.Native.Nat.{ℕ, zero, suc, ◌-◌, ◌≤◌, ◌<◌}
use native.Mathlib.Omega.{arith}
use lib.Dec.{eqb, ltb}
use lib.ListN.{get_or}
use borrow.Author.Tests.{eqb-true, eqb-false, ne_eqb, ltb-true, ltb-false, lt-ltb, not-true}
use Rattle.laws.specs.Tests.{any_below, elem}
use Rattle.laws.specs.Sums.{bit}
use Rattle.laws.specs.Cells.{zero_row}
use Rattle.laws.proofs.Bools.{split, either, clash, and_l, and_r, agree}
use Rattle.laws.proofs.Tests.{none_of, any_found}
use Rattle.laws.proofs.Sums.{sum_same}
use Rattle.access.specs.Limits.{max_layers, max_threads, max_domain}
use Rattle.tables.specs.Tables.{Tables, thread_width, level, counter, layers_used, pool_used, youngest, thread_live}
use Rattle.tables.specs.Layers.{layer_parent, layer_first, layer_count, layer_holders, layer_at, layer_in_use}
use Rattle.tables.specs.Outcome.{with_threads}
use Rattle.judge.specs.Domain.{domain}
use Rattle.sound_domains.specs.Domains.{chain_ends}
use Rattle.sound_domains.proofs.Hierarchy.{no_due}
use Rattle.sound.proofs.Facts.{Owing, Sound}
use Rattle.domain_end.specs.End.{released, unheld, put_layer, ended}
use Rattle.domain_end.specs.Whole.{reached_but, rules_before, place_of, Ended}
use Rattle.kept_domains.proofs.Threads.{live_below}
use Rattle.kept_domains.proofs.Counts.{layer_recounted}
use Rattle.kept_domains.proofs.Restrict.{both_other}
use Rattle.kept_end.proofs.Release.{less_beside, less_in_use, less-free, layer_stands, moved}
use Rattle.kept_end.proofs.Put.{in_use, less-same, less-used, released_owing, step-ends}
use Rattle.kept_end.proofs.End.{left_owing, thread, live-other, live_same, ended-sound, ended_rows, ended-lives, ended-domain, ended-entries}
use Rattle.kept_end.proofs.Reached.{in_use_reached, reached_in_use}
use Rattle.kept_end.proofs.Filled.{run_begins}

-- ---- what stands of every layer that is still in use in T'
pub record Stand (T T' : Tables) : Type 0 where
  pub rulesets : T'.rulesets ≡ T.rulesets
  pub system : (k : ℕ) → k < 2 → get_or T'.system k 0 ≡ get_or T.system k 0
  pub used : (l : ℕ) → layer_in_use T'.layers l ≡ true → layer_in_use T.layers l ≡ true
  pub parent : (l : ℕ) → layer_in_use T'.layers l ≡ true → layer_parent T'.layers l ≡ layer_parent T.layers l
  pub count : (l : ℕ) → layer_in_use T'.layers l ≡ true → layer_count T'.layers l ≡ layer_count T.layers l
  pub layer : (l : ℕ) → l < max_layers → layer_in_use T'.layers l ≡ true → layer_at T'.layers T'.pool l ≡ layer_at T.layers T.pool l
  -- "runs keeping their order"
  pub order : (l m : ℕ) → l < max_layers → m < max_layers → layer_in_use T'.layers l ≡ true → layer_in_use T'.layers m ≡ true
      → layer_first T.layers l ≤ layer_first T.layers m → layer_first T'.layers l ≤ layer_first T'.layers m

stand_self : (T : Tables) → Stand T T
stand_self T = record {
  rulesets = refl;
  system = λ k h. refl;
  used = λ l u. u;
  parent = λ l u. refl;
  count = λ l u. refl;
  layer = λ l h u. refl;
  order = λ l m h k u v e. e;
}

stand_on : (T T1 T2 : Tables) → Stand T T1 → Stand T1 T2 → Stand T T2
stand_on T T1 T2 p q = record {
  rulesets = q.rulesets ∙ p.rulesets;
  system = λ k h. q.system k h ∙ p.system k h;
  used = λ l u. p.used l (q.used l u);
  parent = λ l u. q.parent l u ∙ p.parent l (q.used l u);
  count = λ l u. q.count l u ∙ p.count l (q.used l u);
  layer = λ l h u. q.layer l h u ∙ p.layer l h (q.used l u);
  order = λ l m h k u v e. q.order l m h k u v (p.order l m h k (q.used l u) (q.used m v) e);
}

module _ (T : Tables) (l : ℕ) (S : Owing T (suc l)) (b : l < max_layers) where
  other : (m : ℕ) → layer_in_use (released T l).layers m ≡ true → m ≡ l → ⊥
  unfolding released
  other m u e = clash (layer_in_use (released T l).layers l) (rw e at u) (less-free T.layers l)

  released_stands : Stand T (released T l)
  unfolding released
  released_stands =
      let sys = T.system in
      let ls = T.layers in
      let at : (m : ℕ) → m < max_layers → (m ≡ l → ⊥) → _ = moved T.entries (counter sys) (level sys) ls T.pool (layers_used sys) (pool_used sys) l S.lengths.layers S.lengths.pool S.layers b (in_use T l S b) in
      record {
        rulesets = refl;
        system = λ k h. both_other sys (layers_used sys - 1) (pool_used sys - layer_count ls l) k h;
        used = λ m u. sym (less_in_use ls l m (other m u)) ∙ u;
        parent = λ m u. less_beside ls l m 0 (other m u) (omega arith) (λ e. omega arith);
        count = λ m u. less_beside ls l m 5 (other m u) (omega arith) (λ e. omega arith);
        layer = λ m h u. layer_stands T.entries (counter sys) (level sys) ls T.pool (layers_used sys) (pool_used sys) l S.lengths.layers S.lengths.pool S.layers b (in_use T l S b)
            m h (other m u) (sym (less_in_use ls l m (other m u)) ∙ u);
        order = λ m n h k u v e.
            either (at m h (other m u))
            (λ x. let p = x.0 in let q = x.1 in either (at n k (other n v)) (λ y. let r = y.0 in let s = y.1 in omega arith) (λ y. let r = y.0 in let s = y.1 in omega arith))
            (λ x. let p = x.0 in let q = x.1 in either (at n k (other n v)) (λ y. let r = y.0 in let s = y.1 in omega arith) (λ y. let r = y.0 in let s = y.1 in omega arith));
      }

  unheld_stands : (layer_holders T.layers l ≡ 1 → ⊥) → Stand T (unheld T l)
  unfolding unheld
  unheld_stands d =
      let same : (m k : ℕ) → k < 6 → _ = less-same T l S b d in
      record {
        rulesets = refl;
        system = λ k h. refl;
        used = λ m u. sym (less-used T l S b d m) ∙ u;
        parent = λ m u. same m 0 (omega arith);
        count = λ m u. same m 5 (omega arith);
        layer = λ m h u. layer_recounted T.layers (unheld T l).layers T.pool same m;
        order = λ m n h k u v e. rw (same m 4 (omega arith), same n 4 (omega arith)) e;
      }

put_stands : (n : ℕ) (T : Tables) (y : ℕ) → Owing T y → y ≤ max_layers → chain_ends T.layers n y ≡ true → Stand T (put_layer n T y)
unfolding put_layer
put_stands zero T y S b e = stand_self T
put_stands (suc n) T zero S b e = stand_self T
put_stands (suc n) T (suc l) S b e = split (eqb (layer_holders T.layers l) 1)
    (λ q.
    let h = eqb-true (layer_holders T.layers l) 1 q in
    let c : l < max_layers = omega arith in
    let r = put_stands n (released T l) (layer_parent T.layers l) (released_owing T l S c h) (S.hierarchy.parents l c) (step-ends T l n S c h e) in
    rw q (stand_on T (released T l) (put_layer n (released T l) (layer_parent T.layers l)) (released_stands T l S c) r))
    (λ q. rw q (unheld_stands T l S (omega arith) (eqb-false (layer_holders T.layers l) 1 q)))

-- ---- the end
module _ (T : Tables) (u : ℕ) (S : Sound T) (v : thread_live T.threads u ≡ true) where
  abbrev T' : Tables
  T' = ended T u

  abbrev ls : List ℕ
  ls = T.layers

  abbrev ls' : List ℕ
  ls' = T'.layers

  S' : Sound T'
  S' = ended-sound T u S v

  stands : Stand T T'
  unfolding ended
  stands =
      let L = thread T u S v in
      let p = put_stands max_domain (with_threads T (zero_row T.threads thread_width u)) (youngest T.threads u) (left_owing T u S v) L.in_use L.domain in
      record { rulesets = p.rulesets; system = p.system; used = p.used; parent = p.parent; count = p.count; layer = p.layer; order = p.order }

  -- in use is what another live thread reaches
  abbrev reaches : ℕ → ℕ → Bool
  reaches l t = (thread_live T.threads t && not (eqb t u)) && elem l (domain ls T.threads t)

  reached_by : (l t : ℕ) → thread_live T'.threads t ≡ true → elem l (domain ls' T'.threads t) ≡ true → reached_but T u l ≡ true
  unfolding reached_but
  reached_by l t x y =
      let a : thread_live (zero_row T.threads thread_width u) t ≡ true = rw (ended_rows T u S v) at x in
      let d = live-other T u S v t a in
      let c : thread_live T.threads t ≡ true = sym (live_same T u S v t d) ∙ a in
      let m : elem l (domain ls T.threads t) ≡ true = rw (ended-domain T u S v t d c) at y in
      sym (any_found (reaches l) max_threads t (live_below T.threads t S.lengths.threads c) (rw (c, ne_eqb t u d, m) refl))

  reached_of : (l : ℕ) → l < max_layers → layer_in_use ls' l ≡ true → reached_but T u l ≡ true
  reached_of l h w = let r = in_use_reached T' S' l h w in reached_by l r.0 r.1 r.2

  used_of : (l : ℕ) → reached_but T u l ≡ true → layer_in_use ls' l ≡ true
  unfolding reached_but
  used_of l h = split (layer_in_use ls' l) (λ q. q)
      (λ q. clash (any_below (reaches l) max_threads) h (none_here q))
    where
      none_here : layer_in_use ls' l ≡ false → any_below (reaches l) max_threads ≡ false
      none_here q = none_of (reaches l) max_threads (λ t k. split (reaches l t)
          (λ r.
          let a = and_l (thread_live T.threads t && not (eqb t u)) (elem l (domain ls T.threads t)) r in
          let c = and_l (thread_live T.threads t) (not (eqb t u)) a in
          let d = eqb-false t u (not-true (eqb t u) (and_r (thread_live T.threads t) (not (eqb t u)) a)) in
          let m = and_r (thread_live T.threads t && not (eqb t u)) (elem l (domain ls T.threads t)) r in
          clash (layer_in_use ls' l) (reached_in_use T' S' l (t, ended-lives T u S v t d c, rw (ended-domain T u S v t d c) m)).1 q)
          (λ r. r))

  in_use_is : (l : ℕ) → l < max_layers → layer_in_use ls' l ≡ reached_but T u l
  in_use_is l h = agree (layer_in_use ls' l) (reached_but T u l) (reached_of l h) (used_of l)

  -- how many rules a layer has afterwards
  count-is : (l : ℕ) → l < max_layers → layer_count ls' l ≡ cond (reached_but T u l) (layer_count ls l) 0
  count-is l h = split (reached_but T u l)
      (λ q. rw q (stands.count l (used_of l q)))
      (λ q. rw q (S'.layers.free l h (in_use_is l h ∙ q) 5 (omega arith)))

  -- two runs that stay lie as they lay
  before-is : (m l : ℕ) → m < max_layers → l < max_layers → layer_in_use ls' m ≡ true → layer_in_use ls' l ≡ true → (layer_count ls' m ≡ 0 → ⊥) → (layer_count ls' l ≡ 0 → ⊥)
      → ltb (layer_first ls' m) (layer_first ls' l) ≡ ltb (layer_first ls m) (layer_first ls l)
  before-is m l h k w x c d = agree (ltb (layer_first ls' m) (layer_first ls' l)) (ltb (layer_first ls m) (layer_first ls l))
      (λ q.
      let a = ltb-true (layer_first ls' m) (layer_first ls' l) q in
      split (ltb (layer_first ls m) (layer_first ls l)) (λ r. r)
      (λ r. absurd (let g = ltb-false (layer_first ls m) (layer_first ls l) r in let o = stands.order l m k h x w g in omega arith)))
      (λ q.
      let a = ltb-true (layer_first ls m) (layer_first ls l) q in
      let o = stands.order m l h k w x (omega arith) in
      let e : (m ≡ l → ⊥) = λ z. let y : layer_first ls m ≡ layer_first ls l = ap (layer_first ls) z in omega arith in
      lt-ltb (layer_first ls' m) (layer_first ls' l) (either (S'.layers.apart m l h k e) (λ s. omega arith) (λ s. omega arith)))

  nothing : (b : Bool) → ◌≡◌ {A = ℕ} (cond b 0 0) 0
  nothing true = refl
  nothing false = refl

  place_is : (l : ℕ) → l < max_layers → reached_but T u l ≡ true → layer_first ls' l ≡ place_of T u l
  unfolding place_of rules_before
  place_is l h q =
      let w = used_of l q in
      let c = stands.count l w in
      split (eqb (layer_count ls l) 0)
      (λ z. rw z ((S'.layers.each l h w).empty-at-zero (c ∙ eqb-true (layer_count ls l) 0 z)))
      (λ z.
      let d = eqb-false (layer_count ls l) 0 z in
      rw z
      (run_begins T'.entries (counter T'.system) (level T'.system) ls' T'.pool (layers_used T'.system) (pool_used T'.system) S'.layers l h (λ y. d (sym c ∙ y))
      ∙ sum_same _ _ max_layers (λ m k. split (reached_but T u m)
      (λ r.
      let x = used_of m r in
      let e = stands.count m x in
      split (eqb (layer_count ls m) 0)
      (λ y. let n = eqb-true (layer_count ls m) 0 y in rw (e, n) (nothing (ltb (layer_first ls' m) (layer_first ls' l)) ∙ sym (nothing (reached_but T u m && ltb (layer_first ls m) (layer_first ls l)))))
      (λ y. let n = eqb-false (layer_count ls m) 0 y in rw (r, e, before-is m l k h x w (λ i. n (sym e ∙ i)) (λ i. d (sym c ∙ i))) refl))
      (λ r. rw (r, S'.layers.free m k (in_use_is m k ∙ r) 5 (omega arith)) (nothing (ltb (layer_first ls' m) (layer_first ls' l)))))))

  -- the theorem: the end of document 02, W13, as a whole
  pub ended-whole : Ended T u T'
  ended-whole = record {
    entries = ended-entries T u;
    rulesets = stands.rulesets;
    level-same_lem = stands.system 0 (omega arith);
    counter-same_lem = stands.system 1 (omega arith);
    threads = ended_rows T u S v;
    in_use = in_use_is;
    free = λ l h q. S'.layers.free l h (in_use_is l h ∙ q);
    parent = λ l h q. stands.parent l (used_of l q);
    layer = λ l h q. stands.layer l h (used_of l q);
    count = λ l h q. stands.count l (used_of l q);
    place = place_is;
    held = λ l h. let e = S'.hierarchy.held l h in let z = no_due l in omega arith;
    layers-used_lem = S'.layers.counted ∙ sum_same (λ i. bit (layer_in_use ls' i)) (λ i. bit (reached_but T u i)) max_layers (λ i h. ap bit (in_use_is i h));
    pool-used_lem = S'.layers.filled ∙ sum_same (layer_count ls') (λ l. cond (reached_but T u l) (layer_count ls l) 0) max_layers count-is;
  }
