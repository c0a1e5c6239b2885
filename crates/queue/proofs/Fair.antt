-- "no waiting [slot] waits more than eight turns", over any list of posts and turns. The measure: within how many steps the cursor comes to the slot. Assumes nothing.
use mathlib.Core.Path.{◌≡◌, refl, sym, ap, ◌∙◌}
use mathlib.Core.Bool.{Bool, true, false, ◌||◌}
use mathlib.Core.List.{List, [], ◌∷◌}
use mathlib.Core.Logic.{◌⊎◌, inl, inr}
use Prim.Native.Nat.{ℕ, zero, suc, ◌<◌, ◌≤◌}
use native.Mathlib.Omega.{arith}
use lib.Dec.{eqb, ltb}
use lib.ListN.{set}
use lib.Seq.{get_or-set_same, get_or-set_other}
use borrow.Author.Tests.{eqb-true, eqb-false, ltb-true, ltb-false, eq-eqb, not-false}
use Rattle.laws.specs.Tests.{all_below}
use Rattle.laws.proofs.Bools.{split, either, clash, or_cases}
use Rattle.laws.proofs.Tests.{all-at}
use Rattle.laws.proofs.Refusals.{passed}
use Rattle.laws.proofs.Cells.{past}
use Rattle.access.specs.declared.errno.Reply.TheVariants.{Done}
use Rattle.queue.specs.declared.Answer.{Answer}
use Rattle.queue.specs.declared.Served.TheVariants.{Slot}
use Rattle.queue.specs.Queue.{Queue, slots, waiting, answered, state_at, queue_sound, post_checks, put_in, post, next, seek, next_waiting, serve, Turned}
use Rattle.queue.specs.Events.{Event, posts, turns, step, turns_in, Serves, Fair}
use Rattle.queue.proofs.Seeks.{seek-step}
use Rattle.queue.proofs.Sound.{Good, good, sound_of, post-cases, turn-cases, put_good, serve_good, kept}

-- ---- the measure
-- k is one of the n slots after c, going round
unfoldable reaches : ℕ → ℕ → ℕ → Bool
reaches zero c k = false
reaches (suc n) c k = eqb (next c) k || reaches n (next c) k

-- every slot is one of the eight after any
computed : all_below (λ c. all_below (λ k. reaches slots c k) slots) slots ≡ true
unfolding all_below reaches next
computed = refl

reach_all : (c k : ℕ) → c < slots → k < slots → reaches slots c k ≡ true
reach_all c k a b = all-at (λ j. reaches slots c j) slots k (all-at (λ i. all_below (λ j. reaches slots i j) slots) slots c computed a) b

next_small : (c : ℕ) → next c < slots
unfolding next
next_small c = split (ltb c 7) (λ q. let l = ltb-true c 7 q in rw q (omega arith)) (λ q. rw q (omega arith))

-- what a turn finds while k waits: k itself, or a slot from which k is nearer
record Nearer (c n k : ℕ) : Type 0 where
  pub steps : ℕ
  pub less : steps < n
  pub still : reaches steps c k ≡ true

record Finds (c n k : ℕ) : Type 0 where
  pub small : c < slots
  pub which : (c ≡ k) ⊎ Nearer c n k

further : {c n k : ℕ} → Finds c n k → Finds c (suc n) k
further f = record { small = f.small; which = either f.which (λ e. inl e) (λ d. inr (record { steps = d.steps; less = (let l = d.less in omega arith); still = d.still })) }

module _ (ss : List ℕ) (k : ℕ) (w : state_at ss k ≡ waiting) where
  finds : (n m c : ℕ) → reaches n c k ≡ true → n ≤ m → Finds (seek ss m c) n k
  unfolding reaches
  finds zero m c r l = clash false r refl
  finds (suc n) zero c r l = absurd (omega arith)
  finds (suc n) (suc m) c r l =
      split (eqb (state_at ss (next c)) waiting)
      (λ q. rw (seek-step ss m c, q) (record {
        small = next_small c;
        which = either (or_cases (eqb (next c) k) (reaches n (next c) k) r) (λ e. inl (eqb-true (next c) k e)) (λ t. inr (record { steps = n; less = omega arith; still = t }));
      }))
      (λ q. rw (seek-step ss m c, q) (further (finds n m (next c)
      (either (or_cases (eqb (next c) k) (reaches n (next c) k) r)
      (λ e. clash (eqb (state_at ss (next c)) waiting) (eq-eqb (state_at ss (next c)) waiting (ap (state_at ss) (eqb-true (next c) k e) ∙ w)) q)
      (λ t. t)) (omega arith))))

-- ---- a slot that waits
state_kept : (ss : List ℕ) (j k v : ℕ) → (k ≡ j → ⊥) → state_at (set ss j v) k ≡ state_at ss k
state_kept ss j k v n = get_or-set_other ss j k v 0 n

waiting-small : (Q : Queue) (k : ℕ) → Good Q → state_at Q.states k ≡ waiting → k < slots
waiting-small Q k g w = split (ltb k slots) (ltb-true k slots)
    (λ q. absurd (let l = ltb-false k slots q in let z = past Q.states k (let s = g.states in omega arith) ∙ w in omega arith))

-- after a post: the queue is sound, the slot waits on, and the cursor stays
record Kept (Q Q' : Queue) (k : ℕ) : Type 0 where
  pub is_good : Good Q'
  pub waits : state_at Q'.states k ≡ waiting
  pub cursor : Q'.cursor ≡ Q.cursor

post_keeps : (Q : Queue) (j t e m k : ℕ) → Good Q → state_at Q.states k ≡ waiting → Kept Q (post Q j t e m).left k
unfolding put_in post_checks
post_keeps Q j t e m k g w = post-cases Q j t e m (λ p. Kept Q p.left k)
    (λ z.
    let p = passed (post_checks Q j) z in
    let n : (k ≡ j → ⊥) = λ i. eqb-false (state_at Q.states j) waiting p.1.1.0 (ap (state_at Q.states) (sym i) ∙ w) in
    record { is_good = put_good Q j t e m g; waits = state_kept Q.states j k waiting n ∙ w; cursor = refl })
    (λ c. record { is_good = g; waits = w; cursor = refl })

serve-waits : (f : ℕ → ℕ → ℕ → Answer) (Q : Queue) (c k : ℕ) → (k ≡ c → ⊥) → state_at Q.states k ≡ waiting → state_at (serve f Q c).states k ≡ waiting
unfolding serve
serve-waits f Q c k n w = state_kept Q.states c k answered n ∙ w

serve-cursor : (f : ℕ → ℕ → ℕ → Answer) (Q : Queue) (c : ℕ) → (serve f Q c).cursor ≡ c
unfolding serve
serve-cursor f Q c = refl

-- ---- the theorem
within : (es : List Event) (Q : Queue) (n k : ℕ) → Good Q → state_at Q.states k ≡ waiting → reaches n Q.cursor k ≡ true → n ≤ slots → n ≤ turns_in es → Serves Q es k
unfolding Serves step turns_in reaches
within [] Q zero k g w r a b = clash false r refl
within [] Q (suc n) k g w r a b = absurd (omega arith)
within (posts j t e m ∷ es) Q n k g w r a b =
    let p = post_keeps Q j t e m k g w in
    within es (post Q j t e m).left n k p.is_good p.waits (rw p.cursor r) a b
within (turns f ∷ es) Q n k g w r a b =
    let c = next_waiting Q.states Q.cursor in
    let d : Finds c n k = finds Q.states k w n slots Q.cursor r a in
    turn-cases f Q (λ (p : Turned). (p.said ≡ Slot k) ⊎ Serves p.left es k)
    (λ s l. either d.which (λ z. inl (ap Slot z)) (λ z.
    split (eqb c k) (λ q. inl (ap Slot (eqb-true c k q))) (λ q.
    let y = z.less in
    inr (within es (serve f Q c) z.steps k (serve_good f Q c l g) (serve-waits f Q c k (λ i. eqb-false c k q (sym i)) w) (rw (serve-cursor f Q c) z.still) (omega arith) (omega arith)))))
    (λ s l. absurd (let y = d.small in omega arith))
    (λ s. clash (queue_sound Q) (sound_of Q g) s)

eight_turns : (Q : Queue) (es : List Event) (k : ℕ) → queue_sound Q ≡ true → state_at Q.states k ≡ waiting → turns_in es ≡ slots → Serves Q es k
eight_turns Q es k s w t =
    let g = good Q s in
    within es Q slots k g w (reach_all Q.cursor k g.cursor (waiting-small Q k g w)) (omega arith) (omega arith)

-- a post that succeeded was made on a sound queue and leaves its slot waiting
post-waits : (Q : Queue) (es : List Event) (k t e m : ℕ) → (post Q k t e m).reply ≡ Done 0 → turns_in es ≡ slots → Serves (post Q k t e m).left es k
unfolding put_in post_checks
post-waits Q es k t e m = post-cases Q k t e m (λ p. p.reply ≡ Done 0 → turns_in es ≡ slots → Serves p.left es k)
    (λ z r n.
    let p = passed (post_checks Q k) z in
    let g = good Q (not-false (queue_sound Q) p.0) in
    let l = ltb-true k slots (not-false (ltb k slots) p.1.0) in
    eight_turns (put_in Q k t e m) es k (sound_of (put_in Q k t e m) (put_good Q k t e m g)) (get_or-set_same Q.states k waiting 0 (let s = g.states in omega arith)) n)
    (λ c r n. absurd (let z : ◌≡◌ {A = ℕ} 0 1 = cc in omega arith))

pub fair : Fair
fair = record { waits = eight_turns; posted = post-waits; kept = kept }
