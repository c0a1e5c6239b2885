-- How code comes to what a write answers and leaves. Assumes nothing.
use mathlib.Core.Path.{◌≡◌, refl, sym, ap, ◌∙◌}
use mathlib.Core.Bool.{Bool, true, false, not, cond}
use mathlib.Core.List.{List, ◌++◌}
use Prim.Native.Nat.{ℕ}
use lib.Dec.{eqb}
use lib.ListN.{length}
use borrow.Author.Tests.{not-true}
use Rattle.laws.specs.Refusals.{Check, first}
use Rattle.laws.proofs.Bools.{split}
use Rattle.laws.proofs.Refusals.{Refusing, join_stop, join_go}
use Rattle.access.specs.Errno.{EIO}
use Rattle.access.specs.declared.errno.Reply.{Reply}
use Rattle.access.specs.declared.errno.Reply.TheVariants.{Done, Refused}
use Rattle.tables.specs.Layers.{ruleset_at}
use Rattle.theorems.specs.Calls.{is_done}
use Rattle.policy_write.specs.File.{written_over, write_form, write_rules, write_room, write_checks}
use Rattle.policy_file.specs.Writing.{write_reply, write_left}
use Rattle.policy_file.proofs.Filled.{refuses, refuses_left}
use Rattle.named.specs.Named.{Named, named_sound, NamedOutcome, named_outcome, named_refused, named_answer}
use Rattle.named.specs.Write.{file_of, write_named, written_out}
use Rattle.named.proofs.Replies.{named-unsound, named_passes}

-- ---- two lists of checks, one after the other
-- where the first refuses nothing the second decides
module _ (xs ys : List Check) (p : Refusing xs) {e : ℕ} (q : e ≡ first xs) (z : e ≡ 0) (file : List ℕ) where
  second-reply : write_reply ys file ≡ write_reply (xs ++ ys) file
  unfolding write_reply
  second-reply = rw (← join_go xs ys p q z refl) refl

  second-left : (out : List ℕ) → write_left ys file out ≡ write_left (xs ++ ys) file out
  unfolding write_left
  second-left out = rw (← join_go xs ys p q z refl) refl

-- the checks on the rules can all refuse, and so can those on the form
rules-refuse : (es ns rules : List ℕ) → Refusing (write_rules es ns rules)
unfolding write_rules
rules-refuse es ns rules = tt

form_refuses : (sys rs : List ℕ) (r : ℕ) (name : List ℕ) → Refusing (write_form sys rs r name)
unfolding write_form
form_refuses sys rs r name = tt

-- what refuses the rules, or where nothing does the room
module _ (es rs ns : List ℕ) (r : ℕ) (file out : List ℕ) {rules : List ℕ} (own : rules ≡ (ruleset_at rs r).rules) {e : ℕ} (q : e ≡ first (write_rules es ns rules)) where
  abbrev Rules : List Check
  Rules = write_rules es ns (ruleset_at rs r).rules

  abbrev Room : List Check
  Room = write_room (length file) (length out)

  own_first : e ≡ first Rules
  own_first = q ∙ ap (λ (x : List ℕ). first (write_rules es ns x)) own

  pub rules-reply : (e ≡ 0 → ⊥) → Refused (record { 0 = e }) ≡ write_reply (Rules ++ Room) file
  rules-reply n = refuses (Rules ++ Room) file (join_stop Rules Room own_first n) n

  pub rules-left : (e ≡ 0 → ⊥) → out ≡ write_left (Rules ++ Room) file out
  rules-left n = refuses_left (Rules ++ Room) file (join_stop Rules Room own_first n) out n

  pub room-reply : e ≡ 0 → {a : Reply} → a ≡ write_reply Room file → a ≡ write_reply (Rules ++ Room) file
  room-reply z k = k ∙ second-reply Rules Room (rules-refuse es ns _) own_first z file

  pub room-left : e ≡ 0 → {o : List ℕ} → o ≡ write_left Room file out → o ≡ write_left (Rules ++ Room) file out
  room-left z k = k ∙ second-left Rules Room (rules-refuse es ns _) own_first z file out

-- ---- the call
module _ (N : Named) (r : ℕ) (name out : List ℕ) where
  abbrev Form : List Check
  Form = write_form N.core.system N.core.rulesets r name

  -- what can refuse behind the form
  abbrev Rest : List Check
  Rest = write_rules N.core.entries N.names (ruleset_at N.core.rulesets r).rules ++ write_room (length (file_of N r name)) (length out)

  -- the output follows the reply
  follows : {a : Reply} → named_outcome a N ≡ write_named N r name out → {o : List ℕ} → o ≡ cond (is_done a) (written_over (file_of N r name) out) out → o ≡ written_out N r name out
  unfolding written_out
  follows k q = q ∙ ap (λ (x : NamedOutcome). cond (is_done x.reply) (written_over (file_of N r name) out) out) k

  -- unsound tables
  module _ {q : Bool} (s : q ≡ named_sound N) (z : not q ≡ true) where
    pub unsound-reply : named_refused EIO N ≡ write_named N r name out
    unfolding write_named
    unsound-reply = named-unsound N s _ _ z

    pub unsound-left : out ≡ written_out N r name out
    unsound-left = follows unsound-reply refl

  -- sound tables
  module _ {q : Bool} (s : q ≡ named_sound N) (z : not q ≡ false) where
    answers : named_outcome (write_reply (Form ++ Rest) (file_of N r name)) N ≡ write_named N r name out
    unfolding write_named write_checks write_reply named_answer
    answers = named_passes N s (Form ++ Rest) _ z (split (eqb (first (Form ++ Rest)) 0) (λ t. rw t refl) (λ t. rw t refl))

    leaves : write_left (Form ++ Rest) (file_of N r name) out ≡ written_out N r name out
    unfolding write_left write_reply
    leaves = follows answers (split (eqb (first (Form ++ Rest)) 0) (λ t. rw t refl) (λ t. rw t refl))

    -- the form of the call refuses, or what comes behind it decides
    module _ {e : ℕ} (f : e ≡ first Form) where
      pub form_reply : (e ≡ 0 → ⊥) → named_refused e N ≡ write_named N r name out
      form_reply n = ap (λ (a : Reply). named_outcome a N) (refuses (Form ++ Rest) (file_of N r name) (join_stop Form Rest f n) n) ∙ answers

      pub form_left : (e ≡ 0 → ⊥) → out ≡ written_out N r name out
      form_left n = refuses_left (Form ++ Rest) (file_of N r name) (join_stop Form Rest f n) out n ∙ leaves

      pub rest-reply : e ≡ 0 → {a : Reply} → a ≡ write_reply Rest (file_of N r name) → named_outcome a N ≡ write_named N r name out
      rest-reply y k = ap (λ (x : Reply). named_outcome x N) (k ∙ second-reply Form Rest (form_refuses _ _ r name) f y (file_of N r name)) ∙ answers

      pub rest-left : e ≡ 0 → {o : List ℕ} → o ≡ write_left Rest (file_of N r name) out → o ≡ written_out N r name out
      rest-left y k = k ∙ second-left Form Rest (form_refuses _ _ r name) f y (file_of N r name) out ∙ leaves
