-- The search for the next waiting slot: what is left of it decides; and how code comes to a post. Assumes nothing.
use mathlib.Core.Path.{◌≡◌, refl, sym, ap, ◌∙◌}
use mathlib.Core.Bool.{cond}
use mathlib.Core.List.{List}
use Prim.Native.Nat.{ℕ, zero, suc, ◌-◌, ◌+◌, ◌<◌, ◌≤◌}
use native.Mathlib.Numerals.{sub-one, add-one}
use lib.Dec.{eqb}
use lib.ListN.{set}
use borrow.Author.Tests.{eq-eqb, ne_eqb, lt-ltb, le-ltb}
use Rattle.laws.specs.Refusals.{first}
use Rattle.access.specs.declared.errno.Reply.TheVariants.{Done, Refused}
use Rattle.queue.specs.Queue.{Queue, queue, slots, waiting, state_at, next, seek, post_checks, put_request, put_in, post, posted}

pub next_up : (c : ℕ) → c < 7 → c + 1 ≡ next c
unfolding next
next_up c l = rw (lt-ltb c 7 l, add-one)

pub next_round : (c : ℕ) → 7 ≤ c → 0 ≡ next c
unfolding next
next_round c l = rw (le-ltb c 7 l)

module _ (ss : List ℕ) where
  -- the first slot looked at is the next one
  pub seek-step : (n c : ℕ) → seek ss (suc n) c ≡ cond (eqb (state_at ss (next c)) waiting) (next c) (seek ss n (next c))
  unfolding seek
  seek-step n c = refl

  pub seek_hit : {w a v : ℕ} (n c : ℕ) → w ≡ seek ss n c → (n ≡ 0 → ⊥) → a ≡ next c → v ≡ state_at ss a → v ≡ waiting → a ≡ w
  seek_hit zero c i z e s v = absurd (z refl)
  seek_hit (suc n) c i z e s v = sym (i ∙ seek-step n c ∙ rw (eq-eqb (state_at ss (next c)) waiting (ap (state_at ss) (sym e) ∙ sym s ∙ v)) (sym e))

  pub seek-on : {w a v : ℕ} (n c : ℕ) → w ≡ seek ss n c → (n ≡ 0 → ⊥) → a ≡ next c → v ≡ state_at ss a → (v ≡ waiting → ⊥) → w ≡ seek ss (n - 1) a
  seek-on zero c i z e s v = absurd (z refl)
  seek-on (suc n) c i z e s v = i ∙ seek-step n c ∙ rw (sub-one (suc n), e, ne_eqb (state_at ss (next c)) waiting (λ q. v (s ∙ ap (state_at ss) e ∙ q))) refl

  pub seek-end : {w : ℕ} (n c : ℕ) → w ≡ seek ss n c → n ≡ 0 → slots ≡ w
  unfolding seek
  seek-end n c i z = sym (rw z at i)

module _ (Q : Queue) (k t e m : ℕ) where
  pub post-refused : {c : ℕ} → c ≡ first (post_checks Q k) → (c ≡ 0 → ⊥) → posted (Refused (record { 0 = c })) Q ≡ post Q k t e m
  unfolding post
  post-refused {c} i n = rw (← i) (simp (ne_eqb c 0 n))

  pub post-done : {c : ℕ} {rs ss : List ℕ} → c ≡ first (post_checks Q k) → c ≡ 0 → rs ≡ put_request Q.requests k t e m → ss ≡ set Q.states k waiting
      → posted (Done 0) (queue rs ss Q.answers Q.cursor) ≡ post Q k t e m
  unfolding post put_in
  post-done i z p q = rw (← i, z, p, q)
