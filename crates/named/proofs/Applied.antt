-- Applying a ruleset of a policy file makes nothing but calls on rulesets and lookups of paths: what those keep, it keeps. Assumes nothing.
use mathlib.Core.Path.{◌≡◌, refl, sym, ap, subst, ◌∙◌}
use mathlib.Core.Bool.{true, false, not}
use mathlib.Core.List.{List, [], ◌∷◌, ◌++◌}
use Prim.Native.Nat.{ℕ}
use lib.Dec.{eqb}
use Rattle.laws.specs.Refusals.{Check, ◌⇒◌}
use Rattle.laws.proofs.Bools.{split}
use Rattle.access.specs.Errno.{ENOENT, E2BIG, EBADMSG}
use Rattle.access.specs.declared.errno.Reply.{Reply}
use Rattle.access.specs.declared.errno.Reply.TheVariants.{Done, Refused, Denied}
use Rattle.tables.specs.Tables.{Tables}
use Rattle.theorems.specs.Calls.{Call, outcome_of, after, after_all}
use Rattle.names.specs.Names.{names_sound}
use Rattle.policy.specs.Find as files
use Rattle.policy.specs.declared.Found.{Found}
use Rattle.policy.specs.declared.Found.TheVariants.{At, TooBig, Damaged, Missing}
use Rattle.policy.specs.Meaning.{Rule, path, port}
use Rattle.named.specs.Named.{Named, NamedOutcome}
use Rattle.named.specs.Policy.{lookup_named, on_named, add_at, add_rule, or_close, add_rules, then_add, applied, found_number, found_checks, apply_named}
use Rattle.named.proofs.Made.{lift_unnamed, lift-goes, named-cases}
use Rattle.named.proofs.Lists.{after-join}
use Rattle.named.proofs.Leaves.{OnRulesets, creates, closes, adds_path, adds_port, AllOnRulesets, none, more, all_join, all_leave}

-- ---- what the files and the name refuse, case by case
pub found-cases : (P : List Check → Type 0) → P (false ⇒ 0 ∷ []) → P (true ⇒ E2BIG ∷ []) → P (true ⇒ EBADMSG ∷ []) → P (true ⇒ ENOENT ∷ []) → (stock site name : List ℕ) → P (found_checks stock site name)
unfolding found_checks found_number
found-cases P a b d m stock site name = of (files.found stock site name)
  where
    of : (f : Found) → P (not (eqb (found_number f) 0) ⇒ found_number f ∷ [])
    of (At file s) = a
    of (TooBig file) = b
    of (Damaged file p) = d
    of Missing = m

-- ---- P of the tables and Q of the replies, kept by each call and lookup
module _ (P : Named → Type 0) (Q : Reply → Type 0)
    (call : (N : Named) (c : Call) → OnRulesets c → P N → P (on_named N c).left × Q (on_named N c).reply)
    (look : (N : Named) (p : List ℕ) → P N → Q (lookup_named N p).reply) (done : (n : ℕ) → Q (Done n)) where
  abbrev Both : NamedOutcome → Type 0
  Both o = P o.left × Q o.reply

  by_add : (N : Named) (r rights : ℕ) (a : Reply) → P N → Q a → Both (add_at N r rights a)
  unfolding add_at
  by_add N r rights (Done e) p q = call N _ (adds_path _ _ _ _) p
  by_add N r rights (Refused e) p q = (p, q)
  by_add N r rights (Denied e l s) p q = (p, q)

  by_rule : (r : ℕ) (N : Named) (q : Rule) → P N → Both (add_rule r N q)
  unfolding add_rule
  by_rule r N (path rights p) h = by_add N r rights (lookup_named N p).reply h (look N p h)
  by_rule r N (port rights n) h = call N _ (adds_port _ _ _ _) h

  or_close_lem : (r : ℕ) (a : Reply) (N : Named) (rest : Named → NamedOutcome) → P N → Q a → Both (rest N) → Both (or_close r a N rest)
  unfolding or_close
  or_close_lem r (Done n) N rest p q b = b
  or_close_lem r (Refused e) N rest p q b = ((call N _ (closes _) p).0, q)
  or_close_lem r (Denied e l s) N rest p q b = ((call N _ (closes _) p).0, q)

  by_rules : (r : ℕ) (qs : List Rule) (N : Named) → P N → Both (add_rules r qs N)
  unfolding add_rules
  by_rules r [] N p = (p, done r)
  by_rules r (q ∷ qs) N p =
      let b : Both (add_rule r N q) = by_rule r N q p in
      or_close_lem _ (add_rule r N q).reply (add_rule r N q).left (add_rules r qs) b.0 b.1 (by_rules r qs (add_rule r N q).left b.0)

  then_add_lem : (rules : List Rule) (a : Reply) (N : Named) → P N → Q a → Both (then_add rules a N)
  unfolding then_add
  then_add_lem rules (Done r) N p q = by_rules _ rules N p
  then_add_lem rules (Refused e) N p q = (p, q)
  then_add_lem rules (Denied e l s) N p q = (p, q)

  pub by_calls : (N : Named) (s : List ℕ) → P N → P (applied N s).left × Q (applied N s).reply
  unfolding applied
  by_calls N s p = then_add_lem _ _ _ (call N _ (creates _ _) p).0 (call N _ (creates _ _) p).1

-- ---- M is what calls on rulesets leave of N
pub record MadeBy (N M : Named) : Type 0 where
  pub calls : List Call
  pub all : AllOnRulesets calls
  pub same-core : M.core ≡ after_all N.core calls
  pub same_names : M.names ≡ N.names

made_by_none : (N : Named) → MadeBy N N
unfolding after_all
made_by_none N = record { calls = []; all = none; same-core = refl; same_names = refl }

made_by_call : (N M : Named) {c : Call} → OnRulesets c → MadeBy N M → MadeBy N (on_named M c).left
unfolding after_all
made_by_call N M {c} v B = split (names_sound M.core.entries M.names)
    (λ h.
    subst (λ (o : NamedOutcome). MadeBy N o.left) (lift-goes M (outcome_of M.core c) h)
    (record {
      calls = B.calls ++ c ∷ [];
      all = all_join B.all (more v none);
      same-core = ap (λ (T : Tables). after T c) B.same-core ∙ sym (after-join B.calls N.core (c ∷ []));
      same_names = B.same_names;
    }))
    (λ h. subst (λ (o : NamedOutcome). MadeBy N o.left) (lift_unnamed M (outcome_of M.core c) h) B)

module _ (N : Named) (stock site name : List ℕ) where
  pub apply-made : MadeBy N (apply_named N stock site name).left
  unfolding apply_named
  apply-made = named-cases N (found_checks stock site name) _ (λ o. MadeBy N o.left) (λ h. made_by_none N) (λ h z. made_by_none N)
      (λ h z. (by_calls (MadeBy N) (λ r. Unit {0}) (λ M c v B. (made_by_call N M v B, tt)) (λ M p B. tt) (λ n. tt) N _ (made_by_none N)).0)

  pub apply-entries : (apply_named N stock site name).left.core.entries ≡ N.core.entries
  apply-entries = let B = apply-made in ap (λ (T : Tables). T.entries) B.same-core ∙ all_leave B.all N.core
