-- Document 02, W14, over records: "While only posts and turns write the queue, no waiting [slot] waits more than eight turns".
use Rattle.std.specs.Prelude.{◌≡◌, true, List, [], ◌∷◌, ◌⊎◌, ℕ}
use Rattle.access.specs.declared.errno.Reply.{Reply}
use Rattle.access.specs.declared.errno.Reply.TheVariants.{Done}
use Rattle.queue.specs.declared.Served.{Served}
use Rattle.queue.specs.declared.Served.TheVariants.{Slot as Serving}
use Rattle.queue.specs.Queue as core
use Rattle.queue.specs.Queue.{slots, waiting, state_at, queue_sound, turned}
use Rattle.queue.specs.Events.{Event, posts, turns, turns_in}
use Rattle.slots.specs.declared.Slot.{Slot}
use Rattle.slots.specs.Slots.{states_of, queue_of}

-- some turn of the events serves slot k, whatever the posts and turns say and leave, as `queue_slots` promises it of them
unfoldable pub ServesSlots : List Slot → ℕ → List Event → ℕ → Type 0
ServesSlots ys c [] k = ⊥
ServesSlots ys c (posts j t e m ∷ es) k = (r : Reply) (zs : List Slot) → core.posted r (queue_of zs c) ≡ core.post (queue_of ys c) j t e m → ServesSlots zs c es k
ServesSlots ys c (turns f ∷ es) k = (r : Served) (zs : List Slot) (d : ℕ) → turned r (queue_of zs d) ≡ core.turn f (queue_of ys c) → (r ≡ Serving k) ⊎ ServesSlots zs d es k

pub record FairSlots : Type 1 where
  -- a slot that waits is served by one of the next eight turns, whatever is posted in between
  pub waits : (ys : List Slot) (c : ℕ) (es : List Event) (k : ℕ) → queue_sound (queue_of ys c) ≡ true → state_at (states_of ys) k ≡ waiting → turns_in es ≡ slots → ServesSlots ys c es k
  -- so is one whose post succeeded
  pub posted : (ys zs : List Slot) (c : ℕ) (es : List Event) (k t e m : ℕ) → core.posted (Done 0) (queue_of zs c) ≡ core.post (queue_of ys c) k t e m → turns_in es ≡ slots → ServesSlots zs c es k
  -- what is promised of the records read as a queue is promised of every field: no two lists and cursors are read alike
  pub once : (ys zs : List Slot) (c d : ℕ) → queue_of ys c ≡ queue_of zs d → (ys ≡ zs) × (c ≡ d)
