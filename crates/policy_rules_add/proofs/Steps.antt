-- One step of the loop: a rule is added, or refused and the ruleset closed. Assumes nothing.
use mathlib.Core.Path.{◌≡◌, refl, sym, ap, subst, ◌∙◌}
use mathlib.Core.Bool.{true, false, false≢true, ◌||◌}
use mathlib.Core.List.{List, [], ◌∷◌, ◌++◌}
use Prim.Native.Nat.{ℕ}
use lib.Dec.{eqb}
use Rattle.laws.proofs.Bools.{split, or_l}
use Rattle.access.specs.Reply.{is_refused}
use Rattle.access.specs.declared.errno.Reply.{Reply}
use Rattle.access.specs.declared.errno.Reply.TheVariants.{Done, Refused, Denied}
use Rattle.tables.specs.Tables.{Tables}
use Rattle.tables.specs.Outcome.{outcome, answer}
use Rattle.ruleset.specs.Create.{close_checks, close_done}
use Rattle.theorems.specs.Calls.{close_ruleset}
use Rattle.policy.specs.Fields.{path_tag, port_tag}
use Rattle.policy.specs.Meaning.{Rule, rule_of}
use Rattle.policy_walk.specs.Steps.{is_rule_tag}
use Rattle.named.specs.Named.{Named, with_names, NamedOutcome, named_outcome}
use Rattle.named.specs.Policy.{on_named, add_rule, or_close, add_rules}
use Rattle.policy_rule_add.specs.Added.{rule_in, Soundly}
use Rattle.policy_rule_add.proofs.Sound.{close_leaves}

-- a field with the tag of a rule is one rule
one_rule : (t : ℕ) (v : List ℕ) → is_rule_tag t ≡ true → rule_of t v ≡ rule_in t v ∷ []
unfolding is_rule_tag rule_of rule_in
one_rule t v h = split (eqb t path_tag) (λ p. rw p) (λ p. let q : eqb t port_tag ≡ true = rw p at h in rw (p, q))

module _ (N : Named) (r t : ℕ) (v : List ℕ) (rest : List Rule) {a : Reply} {M : Named} (s : Soundly (add_rule r N (rule_in t v)) a M) {qs : List Rule} (tag : is_rule_tag t ≡ true) (e : qs ≡ rule_of t v ++ rest) where
  -- the rule's own reply decides
  by_reply : add_rules r qs N ≡ or_close r a M (add_rules r rest)
  unfolding add_rules
  by_reply =
      let one : qs ≡ rule_in t v ∷ rest = e ∙ rw (one_rule t v tag) in
      ap (λ (l : List Rule). add_rules r l N) one ∙ ap (λ (o : NamedOutcome). or_close r o.reply o.left (add_rules r rest)) (sym s.comes)

  done_with : (b : Reply) → is_refused b ≡ false → or_close r b M (add_rules r rest) ≡ add_rules r rest M
  unfolding or_close is_refused
  done_with (Done n) h = refl
  done_with (Refused n) h = absurd (false≢true (sym h))
  done_with (Denied n l k) h = absurd (false≢true (sym h))

  closed_with : (b : Reply) → is_refused b ≡ true → named_outcome b (on_named M (close_ruleset r)).left ≡ or_close r b M (add_rules r rest)
  unfolding or_close is_refused
  closed_with (Done n) h = absurd (false≢true h)
  closed_with (Refused n) h = refl
  closed_with (Denied n l k) h = refl

  pub goes_on : is_refused a ≡ false → add_rules r qs N ≡ add_rules r rest M
  goes_on h = by_reply ∙ done_with a h

  pub stops : is_refused a ≡ true → {b : Reply} {U : Tables} → outcome b U ≡ answer M.core (close_checks M.core r) (close_done M.core r) → named_outcome a (with_names U M.names) ≡ add_rules r qs N
  stops h k = ap (named_outcome a) (close_leaves M s.still r k) ∙ closed_with a h ∙ sym by_reply

pub all-added : (r : ℕ) (N : Named) {qs : List Rule} → qs ≡ [] → named_outcome (Done r) N ≡ add_rules r qs N
unfolding add_rules
all-added r N e = rw e
