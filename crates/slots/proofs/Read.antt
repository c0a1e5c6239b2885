-- Records read as parallel lists: their lengths, one record written, one read, and no two lists read alike. Assumes nothing.
use mathlib.Core.Path.{◌≡◌, refl, ap}
use mathlib.Core.List.{List, [], ◌∷◌}
use Prim.Native.Nat.{ℕ, zero, suc, ◌+◌, ◌*◌}
use native.Mathlib.Omega.{arith}
use lib.ListN.{length, get_or, set, drop}
use Rattle.laws.specs.Cells.{cell}
use Rattle.queue.specs.declared.Answer.{Answer}
use Rattle.queue.specs.Queue.{Queue, waiting, answered, put_request, put_answer}
use Rattle.slots.specs.declared.Request.{Request}
use Rattle.slots.specs.declared.Slot.{Slot}
use Rattle.slots.specs.Slots.{requests_of, states_of, answers_of, queue_of}

-- ---- what a post and a turn make of a record, and what stands past a list's end
abbrev pub requested : Slot → Request → Slot
requested y q = record { request = q; state = waiting; answer = y.answer }

abbrev pub answering : Slot → Answer → Slot
answering y a = record { request = y.request; state = answered; answer = a }

abbrev pub no_slot : Slot
no_slot = record { request = record { thread = 0; entry = 0; rights = 0 }; state = 0; answer = record { error = 0; layer = 0; rights = 0; read = 0 } }

abbrev pub slot_at : List Slot → ℕ → Slot
slot_at ys k = get_or ys k no_slot

-- ---- lengths
pub length-states : (ys : List Slot) → length (states_of ys) ≡ length ys
unfolding states_of
length-states [] = refl
length-states (y ∷ ys) = ap suc (length-states ys)

pub length-requests : (ys : List Slot) → length (requests_of ys) ≡ 3 * length ys
unfolding requests_of
length-requests [] = omega arith
length-requests (y ∷ ys) = let l = length-requests ys in omega arith

pub length-answers : (ys : List Slot) → length (answers_of ys) ≡ 4 * length ys
unfolding answers_of
length-answers [] = omega arith
length-answers (y ∷ ys) = let l = length-answers ys in omega arith

-- a list of eight is its eight elements
pub eight : (ys : List Slot) → length ys ≡ 8
    → ((slot_at ys 0).state ∷ (slot_at ys 1).state ∷ (slot_at ys 2).state ∷ (slot_at ys 3).state ∷ (slot_at ys 4).state ∷ (slot_at ys 5).state ∷ (slot_at ys 6).state ∷ (slot_at ys 7).state ∷ [])
    ≡ states_of ys
unfolding states_of
eight (a ∷ b ∷ c ∷ d ∷ e ∷ f ∷ g ∷ h ∷ []) l = refl
eight [] l = absurd (omega arith)
eight (a ∷ []) l = absurd (omega arith)
eight (a ∷ b ∷ []) l = absurd (omega arith)
eight (a ∷ b ∷ c ∷ []) l = absurd (omega arith)
eight (a ∷ b ∷ c ∷ d ∷ []) l = absurd (omega arith)
eight (a ∷ b ∷ c ∷ d ∷ e ∷ []) l = absurd (omega arith)
eight (a ∷ b ∷ c ∷ d ∷ e ∷ f ∷ []) l = absurd (omega arith)
eight (a ∷ b ∷ c ∷ d ∷ e ∷ f ∷ g ∷ []) l = absurd (omega arith)
eight (a ∷ b ∷ c ∷ d ∷ e ∷ f ∷ g ∷ h ∷ i ∷ ys) l = absurd (omega arith)

-- ---- one record written
pub set-states : (ys : List Slot) (k : ℕ) (y : Slot) → states_of (set ys k y) ≡ set (states_of ys) k y.state
unfolding states_of
set-states [] k y = refl
set-states (x ∷ ys) zero y = refl
set-states (x ∷ ys) (suc k) y = ap (λ (l : List ℕ). x.state ∷ l) (set-states ys k y)

third : (k c : ℕ) → 3 * suc k + c ≡ suc (suc (suc (3 * k + c)))
third k c = omega arith

fourth : (k c : ℕ) → 4 * suc k + c ≡ suc (suc (suc (suc (4 * k + c))))
fourth k c = omega arith

pub set-requests : (ys : List Slot) (k : ℕ) (y : Slot) → requests_of (set ys k y) ≡ put_request (requests_of ys) k y.request.thread y.request.entry y.request.rights
unfolding requests_of put_request
set-requests [] k y = refl
set-requests (x ∷ ys) zero y = refl
set-requests (x ∷ ys) (suc k) y =
    rw (third k 0, third k 1, third k 2) (ap (λ (l : List ℕ). x.request.thread ∷ x.request.entry ∷ x.request.rights ∷ l) (set-requests ys k y))

pub set-answers : (ys : List Slot) (k : ℕ) (y : Slot) → answers_of (set ys k y) ≡ put_answer (answers_of ys) k y.answer
unfolding answers_of put_answer
set-answers [] k y = refl
set-answers (x ∷ ys) zero y = refl
set-answers (x ∷ ys) (suc k) y =
    rw (fourth k 0, fourth k 1, fourth k 2, fourth k 3)
    (ap (λ (l : List ℕ). x.answer.error ∷ x.answer.layer ∷ x.answer.rights ∷ x.answer.read ∷ l) (set-answers ys k y))

-- a post leaves the answers, a turn the requests
pub answers-kept : (ys : List Slot) (k : ℕ) (q : Request) → answers_of (set ys k (requested (slot_at ys k) q)) ≡ answers_of ys
unfolding answers_of
answers-kept [] k q = refl
answers-kept (x ∷ ys) zero q = refl
answers-kept (x ∷ ys) (suc k) q = ap (λ (l : List ℕ). x.answer.error ∷ x.answer.layer ∷ x.answer.rights ∷ x.answer.read ∷ l) (answers-kept ys k q)

pub requests-kept : (ys : List Slot) (k : ℕ) (a : Answer) → requests_of (set ys k (answering (slot_at ys k) a)) ≡ requests_of ys
unfolding requests_of
requests-kept [] k a = refl
requests-kept (x ∷ ys) zero a = refl
requests-kept (x ∷ ys) (suc k) a = ap (λ (l : List ℕ). x.request.thread ∷ x.request.entry ∷ x.request.rights ∷ l) (requests-kept ys k a)

-- ---- one request read
pub thread-at : (ys : List Slot) (k : ℕ) → cell (requests_of ys) 3 k 0 ≡ (slot_at ys k).request.thread
unfolding requests_of
thread-at [] k = refl
thread-at (x ∷ ys) zero = refl
thread-at (x ∷ ys) (suc k) = rw (third k 0) (thread-at ys k)

pub entry_at : (ys : List Slot) (k : ℕ) → cell (requests_of ys) 3 k 1 ≡ (slot_at ys k).request.entry
unfolding requests_of
entry_at [] k = refl
entry_at (x ∷ ys) zero = refl
entry_at (x ∷ ys) (suc k) = rw (third k 1) (entry_at ys k)

pub rights-at : (ys : List Slot) (k : ℕ) → cell (requests_of ys) 3 k 2 ≡ (slot_at ys k).request.rights
unfolding requests_of
rights-at [] k = refl
rights-at (x ∷ ys) zero = refl
rights-at (x ∷ ys) (suc k) = rw (third k 2) (rights-at ys k)

-- ---- no two lists are read alike
parts_one : (ys zs : List Slot) → requests_of ys ≡ requests_of zs → states_of ys ≡ states_of zs → answers_of ys ≡ answers_of zs → ys ≡ zs
unfolding requests_of states_of answers_of
parts_one [] [] p q r = refl
parts_one [] (z ∷ zs) p q r = absurd (let l = ap length q in omega arith)
parts_one (y ∷ ys) [] p q r = absurd (let l = ap length q in omega arith)
parts_one (y ∷ ys) (z ∷ zs) p q r = λ i.
    record {
      request = record { thread = ap (λ (l : List ℕ). get_or l 0 0) p i; entry = ap (λ (l : List ℕ). get_or l 1 0) p i; rights = ap (λ (l : List ℕ). get_or l 2 0) p i };
      state = ap (λ (l : List ℕ). get_or l 0 0) q i;
      answer = record { error = ap (λ (l : List ℕ). get_or l 0 0) r i; layer = ap (λ (l : List ℕ). get_or l 1 0) r i; rights = ap (λ (l : List ℕ). get_or l 2 0) r i; read = ap (λ (l : List ℕ). get_or l 3 0) r i };
    } ∷ parts_one ys zs (ap (drop 3) p) (ap (drop 1) q) (ap (drop 4) r) i

pub read-once : (ys zs : List Slot) (c d : ℕ) → queue_of ys c ≡ queue_of zs d → (ys ≡ zs) × (c ≡ d)
read-once ys zs c d e =
    (parts_one ys zs (ap (λ (Q : Queue). Q.requests) e) (ap (λ (Q : Queue). Q.states) e) (ap (λ (Q : Queue). Q.answers) e), ap (λ (Q : Queue). Q.cursor) e)
