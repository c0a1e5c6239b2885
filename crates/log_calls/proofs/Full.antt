-- How code without room for a field comes to its answer: the call's checks alone, then ENOSPC. Assumes nothing.
use mathlib.Core.Path.{◌≡◌, refl, ap, ◌∙◌}
use mathlib.Core.Bool.{Bool, true, false, not}
use mathlib.Core.List.{List}
use Prim.Native.Nat.{ℕ}
use Rattle.laws.specs.Refusals.{Check, first}
use Rattle.laws.proofs.Bools.{split}
use Rattle.access.specs.Errno.{EIO, ENOSPC}
use Rattle.access.specs.Reply.{is_refused, reply_to}
use Rattle.access.specs.declared.errno.Reply.{Reply}
use Rattle.access.specs.declared.errno.Reply.TheVariants.{Done, Refused}
use Rattle.tables.specs.Outcome.{named, naming}
use Rattle.named.specs.Named.{Named, named_sound, NamedOutcome, named_outcome, named_refused, named_call, judged_by}
use Rattle.named.proofs.Replies.{told-refused, told-done, judged-unsound, judged_passes}
use Rattle.log_calls.specs.Logs.{full_reply, without_room}

module _ (N : Named) {q : Bool} (s : q ≡ named_sound N) (cs : List Check) (n : ℕ) (M : Named) (a b : ℕ → ℕ) (D : List ℕ) where
  abbrev done : NamedOutcome
  done = named_outcome (Done n) M

  abbrev made : NamedOutcome
  made = judged_by (naming a b D) (named_call N cs done)

  pub full_unsound : not q ≡ true → named_refused EIO N ≡ without_room N made
  unfolding without_room full_reply is_refused
  full_unsound z = ap (without_room N) (judged-unsound N s cs done a b D z)

  -- the reply of the checks alone, where there is no room
  pub full_checked : not q ≡ false → {r p : Reply} → r ≡ named a b D (reply_to (first cs)) → p ≡ full_reply r → named_outcome p N ≡ without_room N made
  unfolding without_room full_reply is_refused
  full_checked z {r} {p} k e = split (is_refused r)
      (λ v. ap (λ (x : Reply). named_outcome x N) e ∙ ap (without_room N) (judged_passes N s cs done a b D z (told-refused a b D N cs k done refl v)))
      (λ v.
      let f : p ≡ Refused (record { 0 = ENOSPC }) = rw v at e in
      ap (λ (x : Reply). named_outcome x N) f ∙ ap (without_room N) (judged_passes N s cs done a b D z (told-done a b D N cs k n M refl v)))
