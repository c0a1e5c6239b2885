-- How code comes to what an application answers and reports. Assumes nothing.
use mathlib.Core.Path.{◌≡◌, refl, sym, ap, ◌∙◌}
use mathlib.Core.Bool.{Bool, true, false, not, false≢true}
use mathlib.Core.List.{List}
use Prim.Native.Nat.{ℕ}
use lib.Dec.{eqb}
use borrow.Author.Tests.{ne_eqb, not-true}
use Rattle.laws.specs.Refusals.{first}
use Rattle.access.specs.Errno.{EIO}
use Rattle.access.specs.Reply.{is_refused}
use Rattle.access.specs.declared.errno.Reply.{Reply}
use Rattle.access.specs.declared.errno.Reply.TheVariants.{Done, Refused, Denied}
use Rattle.theorems.specs.Calls.{is_done}
use Rattle.policy.specs.Find.{found, part_of}
use Rattle.policy.specs.declared.Found.{Found}
use Rattle.named.specs.Named.{Named, named_sound, NamedOutcome, named_outcome, named_refused, named_answer}
use Rattle.named.specs.Policy.{applied, found_number, found_checks, apply_named, place, found_place, applied_place, placed}
use Rattle.named.proofs.Replies.{named-unsound, named_passes}

done_not : (a : Reply) → is_refused a ≡ false → is_done a ≡ true
unfolding is_refused
done_not (Done n) h = refl
done_not (Refused e) h = absurd (false≢true (sym h))
done_not (Denied e l s) h = absurd (false≢true (sym h))

refused_not : (a : Reply) → is_refused a ≡ true → is_done a ≡ false
unfolding is_refused
refused_not (Done n) h = absurd (false≢true h)
refused_not (Refused e) h = refl
refused_not (Denied e l s) h = refl

module _ (N : Named) (stock site name cells : List ℕ) where
  -- unsound tables
  pub unsound-reply : {q : Bool} → q ≡ named_sound N → not q ≡ true → named_refused EIO N ≡ apply_named N stock site name
  unfolding apply_named
  unsound-reply s z = named-unsound N s _ _ z

  pub unsound-place : {q : Bool} → q ≡ named_sound N → not q ≡ true → placed cells (place 0 0 0) ≡ placed cells (applied_place N stock site name)
  unfolding applied_place
  unsound-place {q} s z = rw (← s, not-true q z) refl

  module _ (s : named_sound N ≡ true) {f : Found} (w : f ≡ found stock site name) {e : ℕ} (n : e ≡ found_number f) where
    -- the files or the name refuse
    module _ (z : e ≡ 0 → ⊥) where
      nonzero : eqb (found_number (found stock site name)) 0 ≡ false
      nonzero = ne_eqb _ 0 (λ q. z (n ∙ ap found_number w ∙ q))

      pub files_refuse : named_outcome (Refused (record { 0 = e })) N ≡ apply_named N stock site name
      unfolding apply_named found_checks named_answer first
      files_refuse = named_passes N {q = true} (sym s) _ _ refl (rw (nonzero, n, w, nonzero) refl)

      pub files_place : placed cells (found_place f) ≡ placed cells (applied_place N stock site name)
      unfolding applied_place
      files_place = rw (s, nonzero, w) refl

    -- a ruleset is applied
    module _ (z : e ≡ 0) {part : List ℕ} (p : part ≡ part_of stock site f) {a : Reply} {M : Named} (k : named_outcome a M ≡ applied N part) where
      zero_number : found_number (found stock site name) ≡ 0
      zero_number = ap found_number (sym w) ∙ sym n ∙ z

      pub applies : named_outcome a M ≡ apply_named N stock site name
      unfolding apply_named found_checks named_answer first
      applies = named_passes N {q = true} (sym s) _ _ refl (rw zero_number (k ∙ ap (applied N) (p ∙ ap (part_of stock site) w)))

      pub done-place : is_refused a ≡ false → placed cells (found_place f) ≡ placed cells (applied_place N stock site name)
      unfolding applied_place
      done-place h = let d : is_done (apply_named N stock site name).reply ≡ true = ap (λ (o : NamedOutcome). is_done o.reply) (sym applies) ∙ done_not a h in rw (s, zero_number, d, w) refl

      pub refused-place : is_refused a ≡ true → placed cells (place 0 0 0) ≡ placed cells (applied_place N stock site name)
      unfolding applied_place
      refused-place h = let d : is_done (apply_named N stock site name).reply ≡ false = ap (λ (o : NamedOutcome). is_done o.reply) (sym applies) ∙ refused_not a h in rw (s, zero_number, d) refl
