-- What a reply says.
use Rattle.std.specs.Prelude.{Bool, true, false, cond, ℕ, eqb}
use Rattle.access.specs.declared.errno.Reply.{Reply}
use Rattle.access.specs.declared.errno.Reply.TheVariants.{Done, Refused, Denied}

unfoldable pub is_refused : Reply → Bool
is_refused (Done n) = false
is_refused (Refused e) = true
is_refused (Denied e l s) = true

-- the reply to a refusal's number, 0 for none
unfoldable pub reply_to : ℕ → Reply
reply_to e = cond (eqb e 0) (Done 0) (Refused (record { 0 = e }))
