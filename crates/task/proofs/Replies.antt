-- The reply to refusals, for a call that changes nothing. Assumes nothing.
use mathlib.Core.Path.{◌≡◌, refl, ap, ◌∙◌}
use mathlib.Core.List.{List}
use Prim.Native.Nat.{ℕ}
use lib.Dec.{eqb}
use Rattle.laws.specs.Refusals.{Check, first}
use Rattle.laws.proofs.Bools.{split}
use Rattle.access.specs.Reply.{reply_to}
use Rattle.access.specs.declared.errno.Reply.{Reply}
use Rattle.access.specs.declared.errno.Reply.TheVariants.{Done}
use Rattle.tables.specs.Tables.{Tables}
use Rattle.tables.specs.Outcome.{outcome, answer}

pub answered : (T : Tables) (cs : List Check) {e : ℕ} {r : Reply} → e ≡ first cs → r ≡ reply_to e → outcome r T ≡ answer T cs (outcome (Done 0) T)
unfolding answer reply_to
answered T cs k h = rw (h, k) (split (eqb (first cs) 0) (λ q. rw q refl) (λ q. rw q refl))
