-- The bound cuts no climb short: a climb that comes to entry 0 does so in no more steps than there are entries. Assumes nothing.
use mathlib.Core.Path.{◌≡◌, refl, sym, ap, ◌∙◌}
use mathlib.Core.Bool.{true, cond}
use mathlib.Core.List.{List}
use mathlib.Core.Logic.{◌⊎◌, inl, inr}
use Prim.Native.Nat.{ℕ, zero, suc, ◌+◌, ◌-◌, ◌*◌, ◌≤◌, ◌<◌, min}
use native.Mathlib.Nat.{not-suc-le-zero, zero-add, suc-add, le_refl}
use native.Mathlib.Omega.{arith}
use lib.Dec.{eqb, ltb, leb}
use lib.ListN.{length}
use borrow.Author.Tests.{eqb-true, eq-eqb, eqb-false, ltb-true, ltb-false, leb-true, leb-false}
use Rattle.laws.proofs.Bools.{split, either, cond_else, cond_of}
use Rattle.laws.proofs.Cells.{past}
use Rattle.access.specs.Limits.{max_entries}
use Rattle.tables.specs.Tables.{entry_width, parent}
use Rattle.sound_tree.specs.Tree.{reaches}

-- ---- of n + 1 numbers below n two are equal
pub record Twice (f : ℕ → ℕ) (n : ℕ) : Type 0 where
  pub i : ℕ
  pub j : ℕ
  pub lt : i < j
  pub le : j ≤ n
  pub eq : f i ≡ f j

-- a number below n at which f is v, or none
find_value : (f : ℕ → ℕ) (v n : ℕ) → ((i : ℕ) × (i < n) × (f i ≡ v)) ⊎ ((i : ℕ) → i < n → f i ≡ v → ⊥)
find_value f v zero = inr (λ i h e. not-suc-le-zero h)
find_value f v (suc n) = split (eqb (f n) v)
    (λ q. inl (n, le_refl (suc n), eqb-true (f n) v q))
    (λ q. either (find_value f v n)
    (λ s. inl (s.0, (let h = s.1 in omega arith), s.2))
    (λ no. inr (λ i h e. split (eqb i n)
    (λ p. eqb-false (f n) v q (ap f (sym (eqb-true i n p)) ∙ e))
    (λ p. no i (let d = eqb-false i n p in omega arith) e))))

pub pigeons : (n : ℕ) (f : ℕ → ℕ) → ((i : ℕ) → i ≤ n → f i < n) → Twice f n
pigeons zero f h = absurd (not-suc-le-zero (h 0 (omega arith)))
pigeons (suc n) f h = either (find_value f (f (suc n)) (suc n))
    (λ s. record { i = s.0; j = suc n; lt = s.1; le = le_refl (suc n); eq = s.2 })
    (λ no.
    -- the last value is no other's, so it may stand for n
    let g : ℕ → ℕ = λ i. cond (eqb (f i) n) (f (suc n)) (f i) in
    let low : (i : ℕ) → i ≤ n → g i < n = λ i l. split (eqb (f i) n)
    (λ q. rw q
    (let a = h (suc n) (le_refl (suc n)) in
    let b : (f (suc n) ≡ n → ⊥) = λ z. no i (omega arith) (eqb-true (f i) n q ∙ sym z) in
    omega arith))
    (λ q. rw q (let a = h i (omega arith) in let b = eqb-false (f i) n q in omega arith)) in
    let t = pigeons n g low in
    record {
      i = t.i;
      j = t.j;
      lt = t.lt;
      le = (let z = t.le in omega arith);
      eq = split (eqb (f t.i) n)
          (λ q. split (eqb (f t.j) n)
          (λ p. eqb-true (f t.i) n q ∙ sym (eqb-true (f t.j) n p))
          (λ p. absurd (no t.j (let z = t.le in omega arith) (sym (rw (q, p) at t.eq)))))
          (λ q. split (eqb (f t.j) n)
          (λ p. absurd (no t.i (let z = t.le in let w = t.lt in omega arith) (rw (q, p) at t.eq)))
          (λ p. rw (q, p) at t.eq));
    })

-- ---- climbs

-- k steps up from e
unfoldable pub up : List ℕ → ℕ → ℕ → ℕ
up es zero e = e
up es (suc k) e = up es k (parent es e)

module _ (es : List ℕ) where
  pub up_add : (i k e : ℕ) → up es (i + k) e ≡ up es k (up es i e)
  unfolding up
  up_add zero k e = ap (λ (n : ℕ). up es n e) (zero-add k)
  up_add (suc i) k e = ap (λ (n : ℕ). up es n e) (suc-add i k) ∙ up_add i k (parent es e)

  -- what the test tells
  pub reach_of : (n e : ℕ) → reaches es n e ≡ true → (k : ℕ) × (k ≤ n) × (up es k e ≡ 0)
  unfolding reaches up
  reach_of zero e h = (0, omega arith, eqb-true e 0 h)
  reach_of (suc n) e h = split (eqb e 0)
      (λ q. (0, omega arith, eqb-true e 0 q))
      (λ q.
      let s = reach_of n (parent es e) (cond_else (eqb e 0) true (reaches es n (parent es e)) q h) in
      (suc s.0, (let l = s.1 in omega arith), s.2))

  -- and what it is told by
  pub of_reach : (n k e : ℕ) → k ≤ n → up es k e ≡ 0 → reaches es n e ≡ true
  unfolding reaches up
  of_reach zero zero e l h = eq-eqb e 0 h
  of_reach zero (suc k) e l h = absurd (not-suc-le-zero l)
  of_reach (suc n) zero e l h = simp (eq-eqb e 0 h)
  of_reach (suc n) (suc k) e l h = cond_of (eqb e 0) true (reaches es n (parent es e)) (λ q. refl) (λ q. of_reach n k (parent es e) (omega arith) h)

  up_suc : (i e : ℕ) → up es (suc i) e ≡ parent es (up es i e)
  unfolding up
  up_suc zero e = refl
  up_suc (suc i) e = up_suc i (parent es e)

  -- a climb that ends, ends in at most n steps, if from n on each number is right below entry 0
  shorten : (n e : ℕ) → 0 < n → ((i : ℕ) → n ≤ up es i e → up es (suc i) e ≡ 0) → (b k : ℕ) → k ≤ b → up es k e ≡ 0 → (j : ℕ) × (j ≤ n) × (up es j e ≡ 0)
  shorten n e z far zero k l h = (k, omega arith, h)
  shorten n e z far (suc b) k l h = split (leb k n)
      (λ q. (k, leb-true k n q, h))
      (λ q.
      let long : n < k = leb-false k n q in
      let t = pigeons (suc n) (λ i. min (up es i e) n) (λ i w. omega arith) in
      let a = t.lt in
      let c = t.le in
      let m = t.eq in
      split (ltb (up es t.j e) n)
      -- the climb came to a number twice
      (λ p.
      let s = ltb-true (up es t.j e) n p in
      let same : up es t.i e ≡ up es t.j e = omega arith in
      let less : up es (t.i + (k - t.j)) e ≡ 0 =
      up_add t.i (k - t.j) e ∙ ap (up es (k - t.j)) same ∙ sym (up_add t.j (k - t.j) e) ∙ ap (λ (m : ℕ). up es m e) (omega arith) ∙ h in
      shorten n e z far b (t.i + (k - t.j)) (omega arith) less)
      -- it came past n, and so is not the whole climb
      (λ p.
      let s : n ≤ up es t.j e = ltb-false (up es t.j e) n p in
      let d : (t.j ≡ k → ⊥) = λ w. (let v : up es t.j e ≡ up es k e = ap (λ (m : ℕ). up es m e) w in omega arith) in
      shorten n e z far b (suc t.i) (omega arith) (far t.i (omega arith))))

  pub climb_bound : (e k : ℕ) → ((i : ℕ) → up es i e < max_entries) → up es k e ≡ 0 → reaches es max_entries e ≡ true
  climb_bound e k small h =
      let s = shorten max_entries e (omega arith) (λ i w. absurd (let a = small i in omega arith)) k k (le_refl k) h in
      of_reach max_entries s.0 e s.1 s.2

  -- a number that is no entry's reads as right below entry 0
  pub climb_any : length es ≡ entry_width * max_entries → (e k : ℕ) → up es k e ≡ 0 → reaches es max_entries e ≡ true
  climb_any w e k h =
      let far : (i : ℕ) → max_entries ≤ up es i e → up es (suc i) e ≡ 0 = λ i a. up_suc i e ∙ sym (past es (3 * up es i e + 1) (omega arith)) in
      let s = shorten max_entries e (omega arith) far k k (le_refl k) h in
      of_reach max_entries s.0 e s.1 s.2

  -- a step up, and back
  step-on : (n k e : ℕ) → (e ≡ 0 → ⊥) → k ≤ n → up es k e ≡ 0 → reaches es n (parent es e) ≡ true
  unfolding up
  step-on n zero e d l h = absurd (d h)
  step-on n (suc k) e d l h = of_reach n k (parent es e) (omega arith) h

  pub reaches-on : (e : ℕ) → (e ≡ 0 → ⊥) → reaches es max_entries e ≡ true → reaches es max_entries (parent es e) ≡ true
  reaches-on e d h = let s = reach_of max_entries e h in step-on max_entries s.0 e d s.1 s.2

  pub reaches_back : length es ≡ entry_width * max_entries → (e : ℕ) → reaches es max_entries (parent es e) ≡ true → reaches es max_entries e ≡ true
  unfolding up
  reaches_back w e h = let s = reach_of max_entries (parent es e) h in climb_any w e (suc s.0) s.2
