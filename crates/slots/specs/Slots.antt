-- Document 02, W14: "The [slots] are a [borrowed] list of records with request, state and answer, and the queue's [cursor] moves on in place".
use Rattle.std.specs.Prelude.{Bool, cond, not, List, [], ◌∷◌, ℕ, eqb, ltb, length}
use Rattle.laws.specs.Tests.{all_below, all_of}
use Rattle.laws.specs.Refusals.{Check, ◌⇒◌}
use Rattle.access.specs.Errno.{EIO, EAGAIN, EINVAL}
use Rattle.queue.specs.Queue.{queue, slots, waiting, state_at, known_state, next_waiting}
use Rattle.queue.specs.Queue as core
use Rattle.queue.specs.declared.Served.{Served}
use Rattle.queue.specs.declared.Served.TheVariants.{Idle, Refused}
use Rattle.queue.specs.declared.Served.TheVariants.{Slot as Serving}
use Rattle.slots.specs.declared.Slot.{Slot}

-- ---- the records, read as the parallel lists of crate queue
unfoldable pub requests_of : List Slot → List ℕ
requests_of [] = []
requests_of (y ∷ ys) = y.request.thread ∷ y.request.entry ∷ y.request.rights ∷ requests_of ys

unfoldable pub states_of : List Slot → List ℕ
states_of [] = []
states_of (y ∷ ys) = y.state ∷ states_of ys

unfoldable pub answers_of : List Slot → List ℕ
answers_of [] = []
answers_of (y ∷ ys) = y.answer.error ∷ y.answer.layer ∷ y.answer.rights ∷ y.answer.read ∷ answers_of ys

-- no two lists and cursors are read alike (`FairSlots`, `once`), so what is equated of this is equated of every field of every slot
abbrev pub queue_of : List Slot → ℕ → core.Queue
queue_of ys c = queue (requests_of ys) (states_of ys) (answers_of ys) c

-- ---- what is decided from the states and the cursor
-- `queue_sound` of the records
unfoldable pub states_sound : List ℕ → ℕ → Bool
states_sound ss c = all_of (ltb c slots ∷ eqb (length ss) slots ∷ all_below (known_state ss) slots ∷ [])

-- `post_checks` of the records
unfoldable pub slot_checks : List ℕ → ℕ → ℕ → List Check
slot_checks ss c k = not (states_sound ss c) ⇒ EIO ∷ not (ltb k slots) ⇒ EINVAL ∷ eqb (state_at ss k) waiting ⇒ EAGAIN ∷ []

-- the slot that a turn serves; 8 if none waits, 9 for EIO
unfoldable pub choice : List ℕ → ℕ → ℕ
choice ss c = cond (states_sound ss c) (next_waiting ss c) 9

-- what a turn says of a choice
unfoldable pub said : ℕ → Served
said k = cond (ltb k slots) (Serving k) (cond (eqb k slots) Idle (Refused (record { 0 = EIO })))
