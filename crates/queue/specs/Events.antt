-- Document 02, W14: "While only posts and turns write the queue, no waiting [slot] waits more than eight turns".
use Rattle.std.specs.Prelude.{◌≡◌, true, List, [], ◌∷◌, ◌⊎◌, ℕ, suc}
use Rattle.access.specs.declared.errno.Reply.TheVariants.{Done}
use Rattle.queue.specs.declared.Answer.{Answer}
use Rattle.queue.specs.declared.Served.TheVariants.{Slot}
use Rattle.queue.specs.Queue.{Queue, slots, waiting, state_at, queue_sound, post, turn}

-- what is done to a queue; each turn has the tables' answers of its own moment
pub data Event : Type 0 where
  -- slot, thread, entry, rights
  posts : ℕ → ℕ → ℕ → ℕ → Event
  turns : (ℕ → ℕ → ℕ → Answer) → Event

unfoldable pub step : Queue → Event → Queue
step Q (posts k t e m) = (post Q k t e m).left
step Q (turns f) = (turn f Q).left

-- how many of the events are turns
unfoldable pub turns_in : List Event → ℕ
turns_in [] = 0
turns_in (posts k t e m ∷ es) = turns_in es
turns_in (turns f ∷ es) = suc (turns_in es)

-- some turn of the list serves slot k
unfoldable pub Serves : Queue → List Event → ℕ → Type 0
Serves Q [] k = ⊥
Serves Q (posts j t e m ∷ es) k = Serves (step Q (posts j t e m)) es k
Serves Q (turns f ∷ es) k = ((turn f Q).said ≡ Slot k) ⊎ Serves (step Q (turns f)) es k

pub record Fair : Type 0 where
  -- a slot that waits is served by one of the next eight turns, whatever is posted in between
  pub waits : (Q : Queue) (es : List Event) (k : ℕ) → queue_sound Q ≡ true → state_at Q.states k ≡ waiting → turns_in es ≡ slots → Serves Q es k
  -- so is one whose post succeeded
  pub posted : (Q : Queue) (es : List Event) (k t e m : ℕ) → (post Q k t e m).reply ≡ Done 0 → turns_in es ≡ slots → Serves (post Q k t e m).left es k
  -- posts and turns keep a queue sound
  pub kept : (Q : Queue) (e : Event) → queue_sound Q ≡ true → queue_sound (step Q e) ≡ true
