-- One step of a climb, for what a layer grants and for what it leaves missing; a layer as a whole. Assumes nothing.
use mathlib.Core.Path.{◌≡◌, refl, sym, ap, ap₂, ◌∙◌}
use mathlib.Core.Bool.{Bool, true, false, not, ◌&&◌, ◌||◌}
use mathlib.Core.List.{List}
use Prim.Native.Nat.{ℕ, zero, suc, ◌+◌, ◌-◌, ◌≤◌}
use native.Mathlib.Numerals.{sub-one, add-one}
use native.Mathlib.Omega.{arith}
use lib.Bits.{and_zero_l, xor_zero_l}
use lib.Dec.{eqb}
use borrow.Author.Tests.{eqb-true, eq-eqb, ne_eqb}
use Rattle.laws.specs.Tests.{first_from, first_below}
use Rattle.laws.proofs.Bools.{split}
use Rattle.laws.proofs.Tests.{first_bound}
use Rattle.access.specs.Limits.{max_entries}
use Rattle.access.specs.Rights.{has, join, meet, without}
use Rattle.access.proofs.Laws.{has_join, has-without, ext_has}
use Rattle.tables.specs.Tables.{parent, port_rule}
use Rattle.tables.specs.Layers.{Layer}
use Rattle.judge.specs.Rules.{rights_on}
use Rattle.judge.specs.Judge.{own_rights, grants, granted, handled_by, handled, missing, port_missing}
use Rattle.judge.specs.Read.{left_after, entries_up, layer_reads, read_up}

-- ---- rights taken away one set after the other
pub without-none : (b : ℕ) → without 0 b ≡ 0
without-none b = xor_zero_l _ ∙ and_zero_l b

pub without-join : (m a b : ℕ) → without m (join a b) ≡ without (without m a) b
without-join m a b = ext_has _ _ (λ i.
    has-without m (join a b) i
    ∙ ap (λ (r : Bool). has m i && not r) (has_join a b i)
    ∙ apart (has m i) (has a i) (has b i)
    ∙ ap (λ (r : Bool). r && not (has b i)) (sym (has-without m a i))
    ∙ sym (has-without (without m a) b i))
  where
    apart : (p q r : Bool) → (p && not (q || r)) ≡ ((p && not q) && not r)
    apart true true r = refl
    apart true false r = refl
    apart false q r = refl

module _ (es rules : List ℕ) where
  -- at the root
  pub grants_root : (n e : ℕ) → e ≡ 0 → grants es rules n e ≡ own_rights es rules e
  unfolding grants
  grants_root zero e h = refl
  grants_root (suc n) e h = simp (eq-eqb e 0 h)

  -- at the bound
  pub grants-none : (n e : ℕ) → n ≡ 0 → grants es rules n e ≡ own_rights es rules e
  unfolding grants
  grants-none n e h = rw h

  -- a step
  pub grants_up : (n e : ℕ) → (e ≡ 0 → ⊥) → (n ≡ 0 → ⊥) → grants es rules n e ≡ join (own_rights es rules e) (grants es rules (n - 1) (parent es e))
  unfolding grants
  grants_up zero e h k = absurd (k refl)
  grants_up (suc n) e h k = rw (sub-one) (simp (ne_eqb e 0 h))

  -- ---- the entries read
  read_done : (n e m : ℕ) → eqb m 0 ≡ true → read_up es rules n e m ≡ 0
  unfolding read_up
  read_done zero e m h = rw h refl
  read_done (suc n) e m h = rw h refl

  read_root : (n e m : ℕ) → eqb m 0 ≡ false → e ≡ 0 → read_up es rules n e m ≡ 1
  unfolding read_up
  read_root zero e m h z = rw h refl
  read_root (suc n) e m h z = rw (h, eq-eqb e 0 z) refl

  read-last : (n e m : ℕ) → eqb m 0 ≡ false → n ≡ 0 → read_up es rules n e m ≡ 1
  unfolding read_up
  read-last n e m h z = rw (z, h) refl

  read_up_lem : (n e m : ℕ) → eqb m 0 ≡ false → (e ≡ 0 → ⊥) → (n ≡ 0 → ⊥) → read_up es rules n e m ≡ read_up es rules (n - 1) (parent es e) (without m (own_rights es rules e)) + 1
  unfolding read_up
  read_up_lem zero e m h d k = absurd (k refl)
  read_up_lem (suc n) e m h d k = rw (sub-one (suc n), h, ne_eqb e 0 d, add-one (read_up es rules n (parent es e) (without m (own_rights es rules e)))) refl

  -- ---- a climb at entry e with n climbs left: m is missing, r entries are read; in the end `whole` is missing, and `total` are read
  abbrev pub Climbing : ℕ → ℕ → ℕ → ℕ → ℕ → ℕ → Type 0
  Climbing whole total n e m r = (whole ≡ without m (grants es rules n e)) × (total ≡ r + read_up es rules n e m)

  module _ {whole total : ℕ} (n e m r : ℕ) (inv : Climbing whole total n e m r) where
    -- none is missing any more
    pub climb_done : {b : Bool} → b ≡ eqb m 0 → b ≡ true → (m ≡ whole) × (r ≡ total)
    climb_done q t =
        let h : eqb m 0 ≡ true = sym q ∙ t in
        let z : m ≡ 0 = eqb-true m 0 h in
        let c = read_done n e m h in
        let k = inv.1 in
        (z ∙ sym (inv.0 ∙ ap (λ (x : ℕ). without x (grants es rules n e)) z ∙ without-none (grants es rules n e)), omega arith)

    -- the entry's own rights
    module _ {b : Bool} {own rest : ℕ} (q : b ≡ eqb m 0) (f : b ≡ false) (o : own ≡ own_rights es rules e) (w : rest ≡ without m own) where
      missed : eqb m 0 ≡ false
      missed = sym q ∙ f

      rest-is : rest ≡ without m (own_rights es rules e)
      rest-is = w ∙ ap (without m) o

      pub climb_root : e ≡ 0 → (rest ≡ whole) × (r + 1 ≡ total)
      climb_root z =
          let c = read_root n e m missed z in
          let k = inv.1 in
          (rest-is ∙ sym (inv.0 ∙ ap (without m) (grants_root n e z)), omega arith)

      pub climb_last : n ≡ 0 → (rest ≡ whole) × (r + 1 ≡ total)
      climb_last z =
          let c = read-last n e m missed z in
          let k = inv.1 in
          (rest-is ∙ sym (inv.0 ∙ ap (without m) (grants-none n e z)), omega arith)

      pub climb_up : {p : ℕ} → (e ≡ 0 → ⊥) → (n ≡ 0 → ⊥) → p ≡ parent es e → Climbing whole total (n - 1) p rest (r + 1)
      climb_up {p} d k u =
          let c = read_up_lem n e m missed d k in
          let t = inv.1 in
          rw (u, rest-is) (inv.0 ∙ ap (without m) (grants_up n e d k) ∙ without-join m (own_rights es rules e) (grants es rules (n - 1) (parent es e)), omega arith)

  -- the climb from the parent, of which so many are left that the entry itself makes one more
  module _ (n e m top : ℕ) (k : n ≡ 0 → ⊥) (b : n ≤ top) {q : Bool} {own rest p x y : ℕ} (u : q ≡ eqb m 0) (f : q ≡ false) (o : own ≡ own_rights es rules e) (w : rest ≡ without m own) where
    pub climb_from : (e ≡ 0 → ⊥) → p ≡ parent es e → (x ≡ without rest (grants es rules (n - 1) p)) × (y ≡ top - (n - 1) + read_up es rules (n - 1) p rest)
        → (x ≡ without m (grants es rules n e)) × (y ≡ top - n + read_up es rules n e m)
    climb_from d v h =
        let c = climb_up {whole = without m (grants es rules n e)} {total = top - n + read_up es rules n e m} n e m (top - n) (refl, refl) u f o w d k v in
        let r = h.1 in
        let t = c.1 in
        (h.0 ∙ sym c.0, omega arith)

-- ---- the entries read are the fewest that leave none missing, else all
first_from_up : (p : ℕ → Bool) (n i : ℕ) → first_from p n (suc i) ≡ suc (first_from (λ k. p (suc k)) n i)
unfolding first_from
first_from_up p zero i = refl
first_from_up p (suc n) i = split (p (suc i)) (λ q. rw q refl) (λ q. rw q (first_from_up p n (suc i)))

module _ (es rules : List ℕ) where
  pub read-fewest : (n e m : ℕ) → read_up es rules n e m ≡ first_below (λ k. eqb (left_after es rules k e m) 0) (entries_up es n e)
  unfolding read_up first_below first_from entries_up left_after
  read-fewest zero e m = refl
  read-fewest (suc n) e m = split (eqb m 0) (λ q. rw q (first-zero (entries_up es (suc n) e) q))
      (λ q. split (eqb e 0) (λ z. rw (z, q) refl)
      (λ z. rw (z, q) (ap suc (read-fewest n (parent es e) (without m (own_rights es rules e))) ∙ sym (first_from_up (λ k. eqb (left_after es rules k e m) 0) (entries_up es n (parent es e)) 0))))
    where
      first-zero : (d : ℕ) → eqb m 0 ≡ true → 0 ≡ first_from (λ k. eqb (left_after es rules k e m) 0) d 0
      first-zero zero q = refl
      first-zero (suc d) q = rw q refl

  -- all entries leave what no rule on the way grants
  pub left-all : (n e m : ℕ) → left_after es rules (entries_up es n e) e m ≡ without m (grants es rules n e)
  unfolding left_after entries_up grants
  left-all zero e m = refl
  left-all (suc n) e m = split (eqb e 0) (λ z. rw z refl)
      (λ z. rw z (left-all n (parent es e) (without m (own_rights es rules e)) ∙ sym (without-join m (own_rights es rules e) (grants es rules n (parent es e)))))

  none-denied : (n e m : ℕ) → eqb m 0 ≡ true → without m (grants es rules n e) ≡ 0
  none-denied n e m q = ap (λ (x : ℕ). without x (grants es rules n e)) (eqb-true m 0 q) ∙ without-none (grants es rules n e)

  -- a climb that leaves something missing reads all
  read_all : (n e m : ℕ) → (without m (grants es rules n e) ≡ 0 → ⊥) → read_up es rules n e m ≡ entries_up es n e
  unfolding read_up entries_up grants
  read_all zero e m d = split (eqb m 0) (λ q. absurd (d (none-denied zero e m q))) (λ q. rw q refl)
  read_all (suc n) e m d = split (eqb m 0) (λ q. absurd (d (none-denied (suc n) e m q)))
      (λ q. split (eqb e 0) (λ z. rw (q, z) refl)
      (λ z.
      let own = own_rights es rules e in
      let g : without m (grants es rules (suc n) e) ≡ without (without m own) (grants es rules n (parent es e)) = rw z (without-join m own (grants es rules n (parent es e))) in
      rw (q, z) (ap suc (read_all n (parent es e) (without m own) (λ w. d (g ∙ w))))))

-- a layer that denies something reads all, and none reads more
module _ (es : List ℕ) (L : Layer) (e m : ℕ) where
  pub reads_all : (missing es L e m ≡ 0 → ⊥) → layer_reads es L e m ≡ entries_up es max_entries e
  unfolding layer_reads missing granted
  reads_all d = sym (read-fewest es L.rules max_entries e (meet m (handled L))) ∙ read_all es L.rules max_entries e (meet m (handled L)) d

  pub reads_bound : layer_reads es L e m ≤ entries_up es max_entries e
  unfolding layer_reads
  reads_bound = first_bound (λ k. eqb (left_after es L.rules k e (meet m (handled L))) 0) (entries_up es max_entries e)

-- ---- what code finds missing at a layer, from the answers on the way
module _ (L : Layer) (m : ℕ) {rules : List ℕ} (q : rules ≡ L.rules) where
  pub reads_is : (es : List ℕ) (e : ℕ) {fs some all r : ℕ} → fs ≡ L.fs → all ≡ handled_by fs → some ≡ meet m all → r ≡ max_entries - max_entries + read_up es rules max_entries e some → r ≡ layer_reads es L e m
  unfolding layer_reads handled
  reads_is es e {fs} {some} {all} {r} a b c d =
      let z : r ≡ read_up es rules max_entries e some = omega arith in
      z ∙ ap₂ (λ (x : List ℕ) (y : ℕ). read_up es x max_entries e y) q (c ∙ ap (meet m) (b ∙ ap handled_by a)) ∙ read-fewest es L.rules max_entries e (meet m (handled_by L.fs))

  pub missing-is : (es : List ℕ) (e : ℕ) {fs some all r : ℕ} → fs ≡ L.fs → all ≡ handled_by fs → some ≡ meet m all → r ≡ without some (grants es rules max_entries e) → r ≡ missing es L e m
  unfolding missing handled granted
  missing-is es e a b c d =
      d ∙ ap₂ without (c ∙ ap (meet m) (b ∙ ap handled_by a)) (ap (λ (x : List ℕ). grants es x max_entries e) q)

  pub port-missing-is : (port : ℕ) {net some own r : ℕ} → net ≡ L.net → some ≡ meet m net → own ≡ rights_on rules port_rule port → r ≡ without some own → r ≡ port_missing L port m
  unfolding port_missing
  port-missing-is port a b c d = d ∙ ap₂ without (b ∙ ap (meet m) a) (c ∙ ap (λ (x : List ℕ). rights_on x port_rule port) q)
