-- A call on sound tables with names, made by code that does not test soundness: it comes to the call on tables with names, and soundness is kept. Assumes nothing.
use mathlib.Core.Path.{◌≡◌, refl, sym, ap, subst, ◌∙◌}
use mathlib.Core.Bool.{true}
use mathlib.Core.List.{List}
use Prim.Native.Nat.{ℕ}
use Rattle.laws.specs.Refusals.{Check}
use Rattle.laws.proofs.Bools.{and_l, and_r}
use Rattle.access.specs.declared.errno.Reply.{Reply}
use Rattle.tables.specs.Tables.{Tables, object, path_rule, port_rule}
use Rattle.tables.specs.Outcome.{Outcome, outcome, answer}
use Rattle.sound.specs.Sound.{sound}
use Rattle.sound.specs.Call.{call}
use Rattle.sound.proofs.Calls.{call_passes}
use Rattle.ruleset.specs.Create.{create_checks, create_done, created, close_checks, close_done, closed}
use Rattle.rule.specs.Rule.{add_path_checks, add_port_checks, add_done, path_added, port_added}
use Rattle.kept_rulesets.proofs.Create.{kept-created}
use Rattle.kept_rulesets.proofs.Add.{kept-path-added, kept-port-added}
use Rattle.theorems.specs.Calls.{Call, create_ruleset, close_ruleset, add_path_rule, add_port_rule, outcome_of}
use Rattle.names.specs.Names.{names_sound}
use Rattle.named.specs.Named.{Named, with_names, named_sound, NamedOutcome, named_outcome, lift}
use Rattle.named.specs.Policy.{on_named}
use Rattle.named.proofs.Replies.{lift-done}
use Rattle.policy_rule_add.specs.Added.{Soundly}

module _ (N : Named) (s : named_sound N ≡ true) where
  core-sound : sound N.core ≡ true
  unfolding named_sound
  core-sound = and_l (sound N.core) (names_sound N.core.entries N.names) s

  names-sound : names_sound N.core.entries N.names ≡ true
  unfolding named_sound
  names-sound = and_r (sound N.core) (names_sound N.core.entries N.names) s

  -- tables with the same entries, and sound, are sound with the same names
  sound_with : (U : Tables) → U.entries ≡ N.core.entries → sound U ≡ true → named_sound (with_names U N.names) ≡ true
  unfolding named_sound
  sound_with U e k = rw (k, e) names-sound

  module _ {a : Reply} {U : Tables} where
    -- soundness needs no second test
    passes : (cs : List Check) (done : Outcome) → outcome a U ≡ answer N.core cs done → outcome a U ≡ call N.core cs done
    passes cs done k = call_passes N.core cs done {b = true} (sym core-sound) refl k

    comes_to : (c : Call) → outcome a U ≡ outcome_of N.core c → named_outcome a (with_names U N.names) ≡ on_named N c
    comes_to c k = lift-done N (outcome_of N.core c) {q = true} (sym names-sound) refl k

    soundly : (c : Call) → U.entries ≡ N.core.entries → outcome a U ≡ outcome_of N.core c → sound (outcome_of N.core c).left ≡ true → Soundly (on_named N c) a (with_names U N.names)
    soundly c e k h = record { comes = comes_to c k; still = sound_with U e (subst (λ (o : Outcome). sound o.left ≡ true) (sym k) h) }

    pub create_soundly : (bs : List ℕ) → U.entries ≡ N.core.entries → outcome a U ≡ answer N.core (create_checks N.core bs 0) (create_done N.core bs)
        → Soundly (on_named N (create_ruleset bs 0)) a (with_names U N.names)
    unfolding outcome_of created
    create_soundly bs e k = soundly (create_ruleset bs 0) e (passes (create_checks N.core bs 0) (create_done N.core bs) k) (kept-created N.core bs 0 core-sound)

    pub path_soundly : (r e rights : ℕ) → U.entries ≡ N.core.entries → outcome a U ≡ answer N.core (add_path_checks N.core r e rights 0) (add_done N.core r path_rule (object N.core.entries e) rights)
        → Soundly (on_named N (add_path_rule r e rights 0)) a (with_names U N.names)
    unfolding outcome_of path_added
    path_soundly r e rights q k =
        soundly (add_path_rule r e rights 0) q (passes (add_path_checks N.core r e rights 0) (add_done N.core r path_rule (object N.core.entries e) rights) k) (kept-path-added N.core r e rights 0 core-sound)

    pub port_soundly : (r n rights : ℕ) → U.entries ≡ N.core.entries → outcome a U ≡ answer N.core (add_port_checks N.core r n rights 0) (add_done N.core r port_rule n rights)
        → Soundly (on_named N (add_port_rule r n rights 0)) a (with_names U N.names)
    unfolding outcome_of port_added
    port_soundly r n rights q k = soundly (add_port_rule r n rights 0) q (passes (add_port_checks N.core r n rights 0) (add_done N.core r port_rule n rights) k) (kept-port-added N.core r n rights 0 core-sound)

    -- what a close leaves
    pub close_leaves : (r : ℕ) → outcome a U ≡ answer N.core (close_checks N.core r) (close_done N.core r) → with_names U N.names ≡ (on_named N (close_ruleset r)).left
    unfolding outcome_of closed
    close_leaves r k = ap (λ (o : NamedOutcome). o.left) (comes_to (close_ruleset r) (passes (close_checks N.core r) (close_done N.core r) k))
