-- Document 02, W14: a queue of eight slots and a cursor. A word in brackets stands for another one of the request's.
use Rattle.std.specs.Prelude.{Bool, cond, not, List, [], ◌∷◌, ℕ, zero, suc, ◌*◌, eqb, ltb, leb, length, get_or, set}
use Rattle.laws.specs.Tests.{all_below, all_of}
use Rattle.laws.specs.Refusals.{Check, ◌⇒◌, first}
use Rattle.laws.specs.Cells.{cell, put_cell}
use Rattle.access.specs.Errno.{EIO, EAGAIN, EINVAL}
use Rattle.access.specs.declared.errno.Reply.{Reply}
use Rattle.access.specs.declared.errno.Reply.TheVariants.{Done, Refused}
use Rattle.queue.specs.declared.Answer.{Answer}
use Rattle.queue.specs.declared.Served.{Served}
use Rattle.queue.specs.declared.Served.TheVariants.{Slot, Idle, Refused as TurnRefused}

-- "eight [slots], each holding at most one waiting access request"
abbrev pub slots : ℕ
slots = 8

-- a request: thread, entry, rights
abbrev pub request_width : ℕ
request_width = 3

-- an answer: error number or 0, layer, rights, entries read
abbrev pub answer_width : ℕ
answer_width = 4

-- the states of a slot; 0 is empty
abbrev pub waiting : ℕ
waiting = 1

abbrev pub answered : ℕ
answered = 2

-- "a [borrowed] list of records with request, state and answer", as parallel lists, and the cursor: the slot served last
pub record Queue : Type 0 where
  pub requests : List ℕ
  pub states : List ℕ
  pub answers : List ℕ
  pub cursor : ℕ

abbrev pub queue : List ℕ → List ℕ → List ℕ → ℕ → Queue
queue rs ss xs c = record { requests = rs; states = ss; answers = xs; cursor = c }

abbrev pub state_at : List ℕ → ℕ → ℕ
state_at ss k = get_or ss k 0

-- "a state not empty, waiting or answered" is none of these
unfoldable pub known_state : List ℕ → ℕ → Bool
known_state ss k = leb (state_at ss k) answered

-- "EIO for a [cursor] above 7, a list not of eight, or a state not empty, waiting or answered"
unfoldable pub queue_sound : Queue → Bool
queue_sound Q =
    all_of
    (ltb Q.cursor slots
    ∷ eqb (length Q.requests) (request_width * slots)
    ∷ eqb (length Q.states) slots
    ∷ eqb (length Q.answers) (answer_width * slots)
    ∷ all_below (known_state Q.states) slots
    ∷ [])

-- ---- post
-- "a second is EAGAIN, a [slot] number above 7 EINVAL, and before these .. EIO"
unfoldable pub post_checks : Queue → ℕ → List Check
post_checks Q k = not (queue_sound Q) ⇒ EIO ∷ not (ltb k slots) ⇒ EINVAL ∷ eqb (state_at Q.states k) waiting ⇒ EAGAIN ∷ []

unfoldable pub put_request : List ℕ → ℕ → ℕ → ℕ → ℕ → List ℕ
put_request rs k t e m = put_cell (put_cell (put_cell rs request_width k 0 t) request_width k 1 e) request_width k 2 m

-- "A post writes only request and state, also over an answered one"
unfoldable pub put_in : Queue → ℕ → ℕ → ℕ → ℕ → Queue
put_in Q k t e m = queue (put_request Q.requests k t e m) (set Q.states k waiting) Q.answers Q.cursor

pub record Posted : Type 0 where
  pub reply : Reply
  pub left : Queue

abbrev pub posted : Reply → Queue → Posted
posted r Q = record { reply = r; left = Q }

unfoldable pub post : Queue → ℕ → ℕ → ℕ → ℕ → Posted
post Q k t e m = let c = first (post_checks Q k) in cond (eqb c 0) (posted (Done 0) (put_in Q k t e m)) (posted (Refused (record { 0 = c })) Q)

-- ---- turn
-- the slot after a slot, "going round"
unfoldable pub next : ℕ → ℕ
next c = cond (ltb c 7) (suc c) 0

-- the first waiting slot of the n after c; 8 if none of them waits
unfoldable pub seek : List ℕ → ℕ → ℕ → ℕ
seek ss zero c = slots
seek ss (suc n) c = let r = seek ss n (next c) in cond (eqb (state_at ss (next c)) waiting) (next c) r

-- "the next waiting [slot] after the last one served"
abbrev pub next_waiting : List ℕ → ℕ → ℕ
next_waiting ss c = seek ss slots c

unfoldable pub put_answer : List ℕ → ℕ → Answer → List ℕ
put_answer xs k a =
    put_cell (put_cell (put_cell (put_cell xs answer_width k 0 a.error) answer_width k 1 a.layer) answer_width k 2 a.rights) answer_width k 3 a.read

-- slot k is answered by f, and was served last
unfoldable pub serve : (ℕ → ℕ → ℕ → Answer) → Queue → ℕ → Queue
serve f Q k =
    queue Q.requests (set Q.states k answered)
    (put_answer Q.answers k (f (cell Q.requests request_width k 0) (cell Q.requests request_width k 1) (cell Q.requests request_width k 2))) k

pub record Turned : Type 0 where
  pub said : Served
  pub left : Queue

abbrev pub turned : Served → Queue → Turned
turned r Q = record { said = r; left = Q }

-- "Each turn answers the next waiting [slot] .. and returns its number; with none waiting it says so and changes nothing". f is what the tables answer
-- at the turn, "EIO for unsound ones included": their EIO is an answer, not the turn's
unfoldable pub turn : (ℕ → ℕ → ℕ → Answer) → Queue → Turned
turn f Q =
    let k = next_waiting Q.states Q.cursor in
    cond (queue_sound Q) (cond (ltb k slots) (turned (Slot k) (serve f Q k)) (turned Idle Q)) (turned (TurnRefused (record { 0 = EIO })) Q)

-- the number that stands for what a turn says: the slot's, or 8 if none waits
unfoldable pub served_reply : Served → Reply
served_reply (Slot k) = Done k
served_reply Idle = Done slots
served_reply (TurnRefused e) = Refused e
