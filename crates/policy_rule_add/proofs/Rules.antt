-- The rules of policy files, added to sound tables. Assumes nothing.
use mathlib.Core.Path.{◌≡◌, refl, sym, ap, subst, ◌∙◌}
use mathlib.Core.Bool.{true}
use mathlib.Core.List.{List, [], ◌∷◌}
use Prim.Native.Nat.{ℕ, zero, suc, ◌-◌, min}
use native.Mathlib.Omega.{arith}
use lib.ListN.{length, drop, length-drop}
use lib.Seq.{take_all}
use borrow.Author.Tests.{eq-eqb, ne_eqb}
use Rattle.laws.specs.Cells.{part}
use Rattle.access.specs.declared.errno.Errno.{Errno}
use Rattle.access.specs.declared.errno.Reply.{Reply}
use Rattle.access.specs.declared.errno.Reply.TheVariants.{Done, Refused, Denied}
use Rattle.access.specs.declared.rights.Rights.{Rights}
use Rattle.tables.specs.Tables.{Tables, object, path_rule, port_rule}
use Rattle.tables.specs.Outcome.{outcome, answer}
use Rattle.rule.specs.Rule.{add_path_checks, add_port_checks, add_done}
use Rattle.ruleset.specs.Attribute.{number}
use Rattle.policy.specs.Fields.{path_tag}
use Rattle.policy.specs.Grammar.{rights_size}
use Rattle.policy.specs.Meaning.{Rule, path, port}
use Rattle.named.specs.Named.{Named, with_names, named_sound, NamedOutcome}
use Rattle.named.specs.Policy.{add_at, add_rule}
use Rattle.named.proofs.Replies.{looked_up_lem}
use Rattle.path_lookup.specs.Lookup.{looked_up}
use Rattle.policy_rule_add.specs.Added.{rule_in, Soundly}
use Rattle.policy_rule_add.proofs.Sound.{path_soundly, port_soundly}

-- what the lookup answers decides
pub by_lookup : (N : Named) → named_sound N ≡ true → (r rights : ℕ) (p : List ℕ) {l : Reply} → l ≡ looked_up N.core.entries N.names p → {m : Reply} → l ≡ m → add_at N r rights m ≡ add_rule r N (path rights p)
unfolding add_rule
by_lookup N s r rights p k q = ap (add_at N r rights) (sym q ∙ ap (λ (o : NamedOutcome). o.reply) (looked_up_lem N p {q = true} (sym s) refl k))

-- ---- the rule of a field
module _ (t : ℕ) (v : List ℕ) {rights : ℕ} (k : rights ≡ number v 0 rights_size) where
  pub in_path : {p : List ℕ} → t ≡ path_tag → p ≡ drop rights_size v → path rights p ≡ rule_in t v
  unfolding rule_in
  in_path e q = rw (eq-eqb t path_tag e, k, q)

  pub in_port : {n : ℕ} → (t ≡ path_tag → ⊥) → n ≡ number v rights_size 2 → port rights n ≡ rule_in t v
  unfolding rule_in
  in_port e q = rw (ne_eqb t path_tag e, k, q)

-- ---- how code adds a rule
module _ (N : Named) (s : named_sound N ≡ true) where
  module _ (r rights : ℕ) (p : List ℕ) {l : Reply} (k : l ≡ looked_up N.core.entries N.names p) where
    pub path-added : {e : ℕ} → l ≡ Done e → {a : Reply} {U : Tables} → U.entries ≡ N.core.entries
        → outcome a U ≡ answer N.core (add_path_checks N.core r e rights 0) (add_done N.core r path_rule (object N.core.entries e) rights) → Soundly (add_rule r N (path rights p)) a (with_names U N.names)
    unfolding add_at
    path-added {e} q {a} {U} h w = subst (λ (o : NamedOutcome). Soundly o a (with_names U N.names)) (by_lookup N s r rights p k q) (path_soundly N s r e rights h w)

    pub path-refused : {e : Errno} → l ≡ Refused e → Soundly (add_rule r N (path rights p)) (Refused e) N
    unfolding add_at
    path-refused {e} q = subst (λ (o : NamedOutcome). Soundly o (Refused e) N) (by_lookup N s r rights p k q) (record { comes = refl; still = s })

    pub path-denied : {e : Errno} {i : ℕ} {m : Rights} → l ≡ Denied e i m → Soundly (add_rule r N (path rights p)) (Denied e i m) N
    unfolding add_at
    path-denied {e} {i} {m} q = subst (λ (o : NamedOutcome). Soundly o (Denied e i m) N) (by_lookup N s r rights p k q) (record { comes = refl; still = s })

  pub port-added : (r rights n : ℕ) {a : Reply} {U : Tables} → U.entries ≡ N.core.entries
      → outcome a U ≡ answer N.core (add_port_checks N.core r n rights 0) (add_done N.core r port_rule n rights) → Soundly (add_rule r N (port rights n)) a (with_names U N.names)
  unfolding add_rule
  port-added r rights n h w = port_soundly N s r n rights h w

pub as_rule : (N : Named) (r : ℕ) {M : Named} {a : Reply} {p q : Rule} → p ≡ q → Soundly (add_rule r N p) a M → Soundly (add_rule r N q) a M
as_rule N r {M} {a} e h = subst (λ (p : Rule). Soundly (add_rule r N p) a M) e h

-- the bytes behind the rights
drop_min : (n : ℕ) (v : List ℕ) → drop (min n (length v)) v ≡ drop n v
drop_min zero v = let z : min 0 (length v) ≡ 0 = omega arith in rw z
drop_min (suc n) [] = let z : min (suc n) 0 ≡ 0 = omega arith in rw z
drop_min (suc n) (x ∷ v) = let z : min (suc n) (suc (length v)) ≡ suc (min n (length v)) = omega arith in rw z (drop_min n v)

pub path_bytes : (v : List ℕ) {from : ℕ} → from ≡ min rights_size (length v) → part v from (length v) ≡ drop rights_size v
path_bytes v {from} e = let l = length-drop from v in take_all (length v - from) (drop from v) (omega arith) ∙ ap (λ (n : ℕ). drop n v) e ∙ drop_min rights_size v
