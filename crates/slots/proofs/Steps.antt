-- What a post and a turn over records owe: each way through them gives what the queue's definitions give. Assumes nothing.
use mathlib.Core.Path.{◌≡◌, refl, sym, ◌∙◌}
use mathlib.Core.Bool.{false}
use mathlib.Core.List.{List, [], ◌∷◌}
use Prim.Native.Nat.{ℕ, zero, suc, ◌<◌, ◌≤◌}
use native.Mathlib.Omega.{arith}
use lib.Dec.{eqb, ltb}
use lib.ListN.{length, set}
use borrow.Author.Tests.{eqb-true, eq-eqb, ne_eqb, ltb-true, lt-ltb, le-ltb, not-false}
use Rattle.laws.specs.Tests.{all_below}
use Rattle.laws.specs.Refusals.{first}
use Rattle.laws.proofs.Bools.{split, agree}
use Rattle.laws.proofs.Tests.{all_of_no, all_of-at, all_of_of, met, ◌also◌}
use Rattle.laws.proofs.Refusals.{passed}
use Rattle.access.specs.Reply.{reply_to}
use Rattle.queue.specs.declared.Answer.{Answer}
use Rattle.queue.specs.Queue.{known_state, queue_sound, post_checks, put_in, posted, post, waiting, state_at, next, seek, next_waiting, serve, turned, turn}
use Rattle.slots.specs.declared.Request.{Request}
use Rattle.slots.specs.declared.Slot.{Slot}
use Rattle.slots.specs.Slots.{requests_of, states_of, answers_of, queue_of, states_sound, slot_checks, choice, said}
use Rattle.slots.proofs.Read.{requested, answering, slot_at, length-states, length-requests, length-answers, set-states, set-requests, set-answers, answers-kept, requests-kept, thread-at, entry_at, rights-at}

-- ---- soundness
pub sound-same : (ys : List Slot) (c : ℕ) → queue_sound (queue_of ys c) ≡ states_sound (states_of ys) c
unfolding queue_sound states_sound
sound-same ys c =
    let a = ltb c 8 in
    let r = eqb (length (requests_of ys)) 24 in
    let s = eqb (length (states_of ys)) 8 in
    let x = eqb (length (answers_of ys)) 32 in
    let e = all_below (known_state (states_of ys)) 8 in
    agree (queue_sound (queue_of ys c)) (states_sound (states_of ys) c)
    (λ q. all_of_of (all_of-at (a ∷ r ∷ s ∷ x ∷ e ∷ []) 0 q also (all_of-at (a ∷ r ∷ s ∷ x ∷ e ∷ []) 2 q also (all_of-at (a ∷ r ∷ s ∷ x ∷ e ∷ []) 4 q also met))))
    (λ q.
    let l : length (states_of ys) ≡ 8 = eqb-true (length (states_of ys)) 8 (all_of-at (a ∷ s ∷ e ∷ []) 1 q) in
    let n = length-states ys in
    let m = length-requests ys in
    let o = length-answers ys in
    all_of_of (all_of-at (a ∷ s ∷ e ∷ []) 0 q also (eq-eqb (length (requests_of ys)) 24 (omega arith) also (all_of-at (a ∷ s ∷ e ∷ []) 1 q
    also (eq-eqb (length (answers_of ys)) 32 (omega arith) also (all_of-at (a ∷ s ∷ e ∷ []) 2 q also met))))))

checks_same : (ys : List Slot) (c k : ℕ) → first (post_checks (queue_of ys c) k) ≡ first (slot_checks (states_of ys) c k)
unfolding post_checks slot_checks
checks_same ys c k = rw (sound-same ys c) refl

-- a list not of eight
short : (ys : List Slot) (c : ℕ) → (length ys ≡ 8 → ⊥) → false ≡ states_sound (states_of ys) c
unfolding states_sound
short ys c n = all_of_no _ 1 (ne_eqb (length (states_of ys)) 8 (λ q. n (sym (length-states ys) ∙ q)))

-- ---- a post
module _ (ys : List Slot) (c k t e m : ℕ) where
  abbrev request : Request
  request = record { thread = t; entry = e; rights = m }

  abbrev Posts : ℕ → List Slot → Type 0
  Posts r l = posted (reply_to r) (queue_of l c) ≡ post (queue_of ys c) k t e m

  pub post-refused : {r : ℕ} → r ≡ first (slot_checks (states_of ys) c k) → (r ≡ 0 → ⊥) → Posts r ys
  unfolding post reply_to
  post-refused {r} i n = rw (checks_same ys c k, ← i, ne_eqb r 0 n) refl

  pub post-short : (length ys ≡ 8 → ⊥) → Posts 5 ys
  unfolding slot_checks first
  post-short n = post-refused (rw (← short ys c n) refl) (λ q. omega arith)

  pub post-done : {r : ℕ} → r ≡ first (slot_checks (states_of ys) c k) → r ≡ 0 → Posts 0 (set ys k (requested (slot_at ys k) request))
  unfolding post reply_to put_in
  post-done i z =
      let y = requested (slot_at ys k) request in
      rw (checks_same ys c k, ← i, z, set-states ys k y, set-requests ys k y, answers-kept ys k request) refl

  pub post-inside : {r : ℕ} → r ≡ first (slot_checks (states_of ys) c k) → r ≡ 0 → k < 8
  unfolding slot_checks
  post-inside i z = let p = passed (slot_checks (states_of ys) c k) (sym i ∙ z) in ltb-true k 8 (not-false _ p.1.0)

-- ---- a turn
-- a search ends at a slot or at 8
next_small : (c : ℕ) → next c ≤ 8
unfolding next
next_small c = split (ltb c 7) (λ q. rw q (let l = ltb-true c 7 q in omega arith)) (λ q. rw q (omega arith))

seek-small : (ss : List ℕ) (n c : ℕ) → seek ss n c ≤ 8
unfolding seek
seek-small ss zero c = omega arith
seek-small ss (suc n) c = split (eqb (state_at ss (next c)) waiting) (λ q. rw q (next_small c)) (λ q. rw q (seek-small ss n (next c)))

module _ (f : ℕ → ℕ → ℕ → Answer) (ys : List Slot) (c : ℕ) where
  abbrev Turns : ℕ → List Slot → ℕ → Type 0
  Turns k l c' = turned (said k) (queue_of l c') ≡ turn f (queue_of ys c)

  pub turn-none : {k : ℕ} → k ≡ choice (states_of ys) c → 7 < k → Turns k ys c
  unfolding choice turn said
  turn-none {k} i l = rw (sound-same ys c) (split (states_sound (states_of ys) c)
      (λ q.
      let n : k ≡ next_waiting (states_of ys) c = rw q at i in
      let b = seek-small (states_of ys) 8 c in
      rw (q, ← n, le-ltb k 8 l, eq-eqb k 8 (omega arith)) refl)
      (λ q. let n : k ≡ 9 = rw q at i in rw (q, n) refl))

  pub turn-short : (length ys ≡ 8 → ⊥) → Turns 9 ys c
  unfolding choice
  turn-short n = turn-none (rw (← short ys c n) refl) (omega arith)

  pub turn-done : {k : ℕ} {a : Answer} → k ≡ choice (states_of ys) c → k < 8
      → a ≡ f (slot_at ys k).request.thread (slot_at ys k).request.entry (slot_at ys k).request.rights → Turns k (set ys k (answering (slot_at ys k) a)) k
  unfolding choice turn said serve
  turn-done {k} {a} i l w = rw (sound-same ys c) (split (states_sound (states_of ys) c)
      (λ q.
      let n : k ≡ next_waiting (states_of ys) c = rw q at i in
      let y = answering (slot_at ys k) a in
      rw (q, ← n, lt-ltb k 8 l, thread-at ys k, entry_at ys k, rights-at ys k, ← w, set-states ys k y, requests-kept ys k a, set-answers ys k y) refl)
      (λ q. let n : k ≡ 9 = rw q at i in absurd (omega arith)))
