-- The eight slots as the code reads their states and writes one: state by state, and field by field. Assumes nothing.
use mathlib.Core.Path.{◌≡◌, refl, ap, ◌∙◌}
use mathlib.Core.List.{List, [], ◌∷◌}
use Prim.Native.Nat.{ℕ, zero, suc, ◌<◌}
use lib.ListN.{length, set}
use Rattle.laws.specs.Refusals.{first}
use Rattle.queue.specs.declared.Answer.{Answer}
use Rattle.queue.specs.Queue.{waiting, answered}
use Rattle.slots.specs.declared.Request.{Request}
use Rattle.slots.specs.declared.Slot.{Slot}
use Rattle.slots.specs.Slots.{states_of, slot_checks, choice}
use Rattle.slots.proofs.Read.{requested, answering, slot_at, eight}
use Rattle.slots.proofs.Steps.{post-inside}

-- ---- the eight states
abbrev pub states : List Slot → List ℕ
states ys = (slot_at ys 0).state ∷ (slot_at ys 1).state ∷ (slot_at ys 2).state ∷ (slot_at ys 3).state ∷ (slot_at ys 4).state ∷ (slot_at ys 5).state ∷ (slot_at ys 6).state ∷ (slot_at ys 7).state ∷ []

module _ (ys : List Slot) (c : ℕ) {r : ℕ} (l : length ys ≡ 8) where
  pub code_is : (k : ℕ) → r ≡ first (slot_checks (states ys) c k) → r ≡ first (slot_checks (states_of ys) c k)
  code_is k said = said ∙ ap (λ (ss : List ℕ). first (slot_checks ss c k)) (eight ys l)

  pub inside : (k : ℕ) → r ≡ first (slot_checks (states ys) c k) → r ≡ 0 → k < 8
  inside k said z = post-inside ys c k 0 0 0 (code_is k said) z

  pub choice-is : r ≡ choice (states ys) c → r ≡ choice (states_of ys) c
  choice-is said = said ∙ ap (λ (ss : List ℕ). choice ss c) (eight ys l)

-- ---- a slot written in two steps
abbrev pub with_request : Slot → Request → Slot
with_request y q = record { request = q; state = y.state; answer = y.answer }

abbrev pub with_state : Slot → ℕ → Slot
with_state y s = record { request = y.request; state = s; answer = y.answer }

abbrev pub with_answer : Slot → Answer → Slot
with_answer y a = record { request = y.request; state = y.state; answer = a }

-- the list with the first step done, and with both
abbrev Then : (Slot → Slot) → (Slot → Slot) → List Slot → ℕ → List Slot
Then f g ys k = let zs = set ys k (f (slot_at ys k)) in set zs k (g (slot_at zs k))

in_one : (f g : Slot → Slot) (ys : List Slot) (k : ℕ) → Then f g ys k ≡ set ys k (g (f (slot_at ys k)))
in_one f g [] k = refl
in_one f g (y ∷ ys) zero = refl
in_one f g (y ∷ ys) (suc k) = ap (λ (l : List Slot). y ∷ l) (in_one f g ys k)

-- a post writes the request, then the state; a turn the state, then the answer
pub request-then-state : (ys : List Slot) (k : ℕ) (q : Request) → Then (λ y. with_request y q) (λ y. with_state y waiting) ys k ≡ set ys k (requested (slot_at ys k) q)
request-then-state ys k q = in_one (λ y. with_request y q) (λ y. with_state y waiting) ys k

pub state-then-answer : (ys : List Slot) (k : ℕ) (a : Answer) → Then (λ y. with_state y answered) (λ y. with_answer y a) ys k ≡ set ys k (answering (slot_at ys k) a)
state-then-answer ys k a = in_one (λ y. with_state y answered) (λ y. with_answer y a) ys k
