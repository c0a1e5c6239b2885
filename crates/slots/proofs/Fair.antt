-- The eight turns over records, from those over parallel lists. Assumes nothing.
use mathlib.Core.Path.{sym, ap, ◌∙◌, subst}
use mathlib.Core.List.{List, [], ◌∷◌}
use mathlib.Core.Logic.{inl, inr}
use Prim.Native.Nat.{ℕ}
use Rattle.laws.proofs.Bools.{either}
use Rattle.queue.specs.Queue.{Queue, Posted, Turned}
use Rattle.queue.specs.Events.{Event, posts, turns, step, Serves}
use Rattle.queue.proofs.Fair.{fair}
use Rattle.slots.specs.declared.Slot.{Slot}
use Rattle.slots.specs.Slots.{queue_of}
use Rattle.slots.specs.Fair.{ServesSlots, FairSlots}
use Rattle.slots.proofs.Read.{read-once}

carried : (es : List Event) (ys : List Slot) (c k : ℕ) → Serves (queue_of ys c) es k → ServesSlots ys c es k
unfolding Serves ServesSlots step
carried [] ys c k s = s
carried (posts j t e m ∷ es) ys c k s = λ r zs p. carried es zs c k (subst (λ (Q : Queue). Serves Q es k) (sym (ap (λ (z : Posted). z.left) p)) s)
carried (turns f ∷ es) ys c k s = λ r zs d p. either s (λ a. inl (ap (λ (z : Turned). z.said) p ∙ a)) (λ b. inr (carried es zs d k (subst (λ (Q : Queue). Serves Q es k) (sym (ap (λ (z : Turned). z.left) p)) b)))

pub fair-slots : FairSlots
fair-slots = record {
  waits = λ ys c es k s w n. carried es ys c k (fair.waits (queue_of ys c) es k s w n);
  posted = λ ys zs c es k t e m p n. carried es zs c k
      (subst (λ (Q : Queue). Serves Q es k) (sym (ap (λ (z : Posted). z.left) p)) (fair.posted (queue_of ys c) es k t e m (sym (ap (λ (z : Posted). z.reply) p)) n));
  once = read-once;
}
