-- The create decides, then the rules. Assumes nothing.
use mathlib.Core.Path.{◌≡◌, refl, sym, ap, subst, ◌∙◌}
use mathlib.Core.Bool.{Bool, true, false}
use mathlib.Core.List.{List}
use Prim.Native.Nat.{ℕ}
use Rattle.access.specs.declared.errno.Errno.{Errno}
use Rattle.access.specs.declared.errno.Reply.{Reply}
use Rattle.access.specs.declared.errno.Reply.TheVariants.{Done, Refused, Denied}
use Rattle.access.specs.declared.rights.Rights.{Rights}
use Rattle.tables.specs.Tables.{Tables, level}
use Rattle.tables.specs.Outcome.{outcome, answer}
use Rattle.ruleset.specs.Create.{create_checks, create_done}
use Rattle.theorems.specs.Calls.{create_ruleset}
use Rattle.policy.specs.Fields.{pieces}
use Rattle.policy.specs.Meaning.{Rule, rules_of, any_group, masks_of, cut_masks, attribute}
use Rattle.named.specs.Named.{Named, with_names, named_sound, NamedOutcome, named_outcome}
use Rattle.named.specs.Policy.{on_named, add_rules, then_add, applied}
use Rattle.policy_rule_add.specs.Added.{Soundly}
use Rattle.policy_rule_add.proofs.Sound.{create_soundly}

-- ---- the attribute
module _ (l : ℕ) (f : List ℕ) {b : Bool} (g : b ≡ any_group (pieces f)) where
  pub with_groups : b ≡ true → {k : ℕ} {v bs : List ℕ} → k ≡ l → v ≡ masks_of f → bs ≡ cut_masks k v → bs ≡ attribute l f
  unfolding attribute
  with_groups t e m c = c ∙ rw (e, m, ← g, t) refl

  pub without_groups : b ≡ false → {bs : List ℕ} → bs ≡ masks_of f → bs ≡ attribute l f
  unfolding attribute
  without_groups t m = m ∙ rw (← g, t) refl

pub opens_soundly : (N : Named) → named_sound N ≡ true → {bs cs : List ℕ} → bs ≡ cs → {a : Reply} {U : Tables} → U.entries ≡ N.core.entries
    → outcome a U ≡ answer N.core (create_checks N.core bs 0) (create_done N.core bs) → Soundly (on_named N (create_ruleset cs 0)) a (with_names U N.names)
opens_soundly N s {bs} e {a} {U} same k = subst (λ (l : List ℕ). Soundly (on_named N (create_ruleset l 0)) a (with_names U N.names)) e (create_soundly N s bs same k)

-- ---- then the rules
module _ (N : Named) (f : List ℕ) {a : Reply} {M : Named} (s : Soundly (on_named N (create_ruleset (attribute (level N.core.system) f) 0)) a M) where
  abbrev rules : List Rule
  rules = rules_of (level N.core.system) f

  with_reply : {b : Reply} → a ≡ b → applied N f ≡ then_add rules b M
  unfolding applied
  with_reply q = ap (λ (o : NamedOutcome). then_add rules o.reply o.left) (sym s.comes) ∙ ap (λ (x : Reply). then_add rules x M) q

  pub opened : {r : ℕ} → a ≡ Done r → {qs : List Rule} → qs ≡ rules → {o : NamedOutcome} → o ≡ add_rules r qs M → o ≡ applied N f
  unfolding then_add
  opened {r} q e h = h ∙ ap (λ (l : List Rule). add_rules r l M) e ∙ sym (with_reply q)

  pub refused : {e : Errno} → a ≡ Refused e → named_outcome (Refused e) M ≡ applied N f
  unfolding then_add
  refused q = sym (with_reply q)

  pub denied : {e : Errno} {l : ℕ} {m : Rights} → a ≡ Denied e l m → named_outcome (Denied e l m) M ≡ applied N f
  unfolding then_add
  denied q = sym (with_reply q)
