-- What a post and a turn leave, case by case; and that they keep a queue sound. Assumes nothing.
use mathlib.Core.Path.{◌≡◌, refl, ap, ◌∙◌}
use mathlib.Core.Bool.{Bool, true, false}
use mathlib.Core.List.{List, [], ◌∷◌}
use Prim.Native.Nat.{ℕ, ◌*◌, ◌<◌, ◌≤◌}
use native.Mathlib.Omega.{arith}
use lib.Dec.{eqb, ltb}
use lib.ListN.{length, set, length-set}
use lib.Seq.{get_or-set_same, get_or-set_other}
use borrow.Author.Tests.{eqb-true, eqb-false, ltb-true, ltb-false, eq-eqb, lt-ltb, le-leb}
use Rattle.laws.specs.Tests.{all_below}
use Rattle.laws.specs.Refusals.{first}
use Rattle.laws.proofs.Bools.{split}
use Rattle.laws.proofs.Tests.{all-at, all_of_lem, all_of-at, all_of_of, met, ◌also◌}
use Rattle.access.specs.Errno.{EIO}
use Rattle.access.specs.declared.errno.Errno.{Errno}
use Rattle.access.specs.declared.errno.Reply.TheVariants.{Done, Refused}
use Rattle.queue.specs.declared.Answer.{Answer}
use Rattle.queue.specs.declared.Served.TheVariants.{Slot, Idle, Refused as TurnRefused}
use Rattle.queue.specs.Queue.{Queue, slots, request_width, answer_width, waiting, answered, known_state, queue_sound, post_checks, put_request, put_in, Posted, posted, post, next_waiting, put_answer, serve, Turned, turned, turn}
use Rattle.queue.specs.Events.{Event, posts, turns, step}

-- ---- soundness, part by part
pub record Good (Q : Queue) : Type 0 where
  pub cursor : Q.cursor < slots
  pub requests : length Q.requests ≡ request_width * slots
  pub states : length Q.states ≡ slots
  pub answers : length Q.answers ≡ answer_width * slots
  pub known : (i : ℕ) → i < slots → known_state Q.states i ≡ true

conditions : Queue → List Bool
conditions Q =
    ltb Q.cursor slots
    ∷ eqb (length Q.requests) (request_width * slots)
    ∷ eqb (length Q.states) slots
    ∷ eqb (length Q.answers) (answer_width * slots)
    ∷ all_below (known_state Q.states) slots
    ∷ []

pub good : (Q : Queue) → queue_sound Q ≡ true → Good Q
unfolding queue_sound conditions
good Q s = record {
  cursor = ltb-true Q.cursor slots (all_of-at (conditions Q) 0 s);
  requests = eqb-true (length Q.requests) (request_width * slots) (all_of-at (conditions Q) 1 s);
  states = eqb-true (length Q.states) slots (all_of-at (conditions Q) 2 s);
  answers = eqb-true (length Q.answers) (answer_width * slots) (all_of-at (conditions Q) 3 s);
  known = λ i l. all-at (known_state Q.states) slots i (all_of-at (conditions Q) 4 s) l;
}

pub sound_of : (Q : Queue) → Good Q → queue_sound Q ≡ true
unfolding queue_sound
sound_of Q g = all_of_of
    (lt-ltb Q.cursor slots g.cursor
    also (eq-eqb (length Q.requests) (request_width * slots) g.requests
    also (eq-eqb (length Q.states) slots g.states
    also (eq-eqb (length Q.answers) (answer_width * slots) g.answers
    also (all_of_lem (known_state Q.states) slots g.known also met)))))

-- ---- the cases
module _ (Q : Queue) (k t e m : ℕ) where
  pub post-cases : (P : Posted → Type 0) → (first (post_checks Q k) ≡ 0 → P (posted (Done 0) (put_in Q k t e m))) → ((c : Errno) → P (posted (Refused c) Q)) → P (post Q k t e m)
  unfolding post
  post-cases P d r = split (eqb (first (post_checks Q k)) 0) (λ q. rw q (d (eqb-true (first (post_checks Q k)) 0 q))) (λ q. rw q (r _))

module _ (f : ℕ → ℕ → ℕ → Answer) (Q : Queue) where
  abbrev pub found : ℕ
  found = next_waiting Q.states Q.cursor

  pub turn-cases : (P : Turned → Type 0)
      → (queue_sound Q ≡ true → found < slots → P (turned (Slot found) (serve f Q found)))
      → (queue_sound Q ≡ true → slots ≤ found → P (turned Idle Q))
      → (queue_sound Q ≡ false → P (turned (TurnRefused (record { 0 = EIO })) Q))
      → P (turn f Q)
  unfolding turn
  turn-cases P s i r = split (queue_sound Q)
      (λ q. split (ltb found slots) (λ l. rw (q, l) (s q (ltb-true found slots l))) (λ l. rw (q, l) (i q (ltb-false found slots l))))
      (λ q. rw q (r q))

-- ---- what is written keeps the lengths and the states
known-set : (ss : List ℕ) (k v : ℕ) → v ≤ answered → length ss ≡ slots → ((i : ℕ) → i < slots → known_state ss i ≡ true) → (i : ℕ) → i < slots → known_state (set ss k v) i ≡ true
unfolding known_state
known-set ss k v small l f i b = split (eqb i k)
    (λ q. let e = eqb-true i k q in rw (e, get_or-set_same ss k v 0 (let z = e in omega arith)) (le-leb v answered small))
    (λ q. rw (get_or-set_other ss k i v 0 (eqb-false i k q)) (f i b))

request_length : (rs : List ℕ) (k t e m : ℕ) → length (put_request rs k t e m) ≡ length rs
unfolding put_request
request_length rs k t e m = simp length-set

answer-length : (xs : List ℕ) (k : ℕ) (a : Answer) → length (put_answer xs k a) ≡ length xs
unfolding put_answer
answer-length xs k a = simp length-set

-- "A post writes only request and state"
answers_stay : (Q : Queue) (k t e m : ℕ) → (put_in Q k t e m).answers ≡ Q.answers
unfolding put_in
answers_stay Q k t e m = refl

pub put_good : (Q : Queue) (k t e m : ℕ) → Good Q → Good (put_in Q k t e m)
unfolding put_in
put_good Q k t e m g = record {
  cursor = g.cursor;
  requests = request_length Q.requests k t e m ∙ g.requests;
  states = length-set Q.states k waiting ∙ g.states;
  answers = ap length (answers_stay Q k t e m) ∙ g.answers;
  known = known-set Q.states k waiting (omega arith) g.states g.known;
}

pub serve_good : (f : ℕ → ℕ → ℕ → Answer) (Q : Queue) (k : ℕ) → k < slots → Good Q → Good (serve f Q k)
unfolding serve
serve_good f Q k b g = record {
  cursor = b;
  requests = g.requests;
  states = length-set Q.states k answered ∙ g.states;
  answers = answer-length Q.answers k _ ∙ g.answers;
  known = known-set Q.states k answered (omega arith) g.states g.known;
}

-- ---- posts and turns keep a queue sound
pub kept : (Q : Queue) (e : Event) → queue_sound Q ≡ true → queue_sound (step Q e) ≡ true
unfolding step
kept Q (posts k t e m) h = post-cases Q k t e m (λ p. queue_sound p.left ≡ true) (λ z. sound_of _ (put_good Q k t e m (good Q h))) (λ c. h)
kept Q (turns f) h = turn-cases f Q (λ p. queue_sound p.left ≡ true) (λ s l. sound_of _ (serve_good f Q _ l (good Q h))) (λ s l. h) (λ s. h)
