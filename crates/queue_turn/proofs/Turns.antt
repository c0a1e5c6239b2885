-- How code comes to a turn. Assumes nothing.
use mathlib.Core.Path.{◌≡◌, sym, ap, ◌∙◌}
use mathlib.Core.Bool.{Bool, true, false, not}
use Prim.Native.Nat.{ℕ, ◌<◌, ◌≤◌}
use borrow.Author.Tests.{not-true, not-false, lt-ltb, le-ltb}
use Rattle.access.specs.Errno.{EIO}
use Rattle.queue.specs.declared.Answer.{Answer}
use Rattle.queue.specs.declared.Served.{Served}
use Rattle.queue.specs.declared.Served.TheVariants.{Slot, Idle, Refused}
use Rattle.queue.specs.Queue.{Queue, queue, slots, queue_sound, next_waiting, serve, Turned, turned, turn, served_reply}
use Rattle.named.specs.Named.{Named, named_outcome}
use Rattle.named.specs.Queue.{answer_of, turn_named}

-- ---- a turn of the queue, with any answers
module _ (f : ℕ → ℕ → ℕ → Answer) (Q : Queue) {b : Bool} (e : b ≡ queue_sound Q) where
  turn-refused : not b ≡ true → turned (Refused (record { 0 = EIO })) Q ≡ turn f Q
  unfolding turn
  turn-refused n = rw (sym e ∙ not-true b n)

  module _ {k : ℕ} (n : not b ≡ false) (i : k ≡ next_waiting Q.states Q.cursor) where
    turn-idle : slots ≤ k → turned Idle Q ≡ turn f Q
    unfolding turn
    turn-idle l = rw (sym e ∙ not-false b n, ← i, le-ltb k slots l)

    turn_served : {P : Queue} → k < slots → P ≡ serve f (queue Q.requests Q.states Q.answers k) k → turned (Slot k) P ≡ turn f Q
    unfolding turn serve
    turn_served l p = rw (sym e ∙ not-false b n, ← i, lt-ltb k slots l, p)

-- ---- a turn on the tables
module _ (N : Named) (Q : Queue) where
  -- what a turn says and leaves, of the queue and of the tables
  abbrev pub Turns : Served → Queue → Named → Type 0
  Turns s P M = (turned s P ≡ turn (answer_of N) Q) × (named_outcome (served_reply s) M ≡ turn_named N Q)

  turns : (s : Served) (P : Queue) → turned s P ≡ turn (answer_of N) Q → Turns s P N
  unfolding turn_named
  turns s P h = (h, ap (λ (p : Turned). named_outcome (served_reply p.said) N) h)

  module _ {b : Bool} (e : b ≡ queue_sound Q) where
    pub refuses : not b ≡ true → Turns (Refused (record { 0 = EIO })) Q N
    refuses n = turns _ _ (turn-refused (answer_of N) Q e n)

    module _ {k : ℕ} (n : not b ≡ false) (i : k ≡ next_waiting Q.states Q.cursor) where
      pub idles : slots ≤ k → Turns Idle Q N
      idles l = turns _ _ (turn-idle (answer_of N) Q e n i l)

      pub serves : {P : Queue} → k < slots → P ≡ serve (answer_of N) (queue Q.requests Q.states Q.answers k) k → Turns (Slot k) P N
      serves l p = turns _ _ (turn_served (answer_of N) Q e n i l p)
