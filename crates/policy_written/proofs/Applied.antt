-- Applying what was written: a create with its masks, then its rules in their order. Assumes nothing.
use mathlib.Core.Path.{◌≡◌, refl, sym, ap, ◌∙◌, subst}
use mathlib.Core.Bool.{true, false, not}
use mathlib.Core.List.{List, [], ◌∷◌, ◌++◌}
use Prim.Native.Nat.{ℕ, ◌+◌, ◌*◌, ◌≤◌, ◌<◌}
use native.Mathlib.Omega.{arith}
use lib.ListN.{length}
use borrow.Author.Tests.{not-true}
use Rattle.laws.specs.Cells.{cell, put_cell}
use Rattle.laws.specs.Refusals.{first}
use Rattle.laws.proofs.Cells.{cell_put, cell_put_beside, length-put_cell}
use Rattle.laws.proofs.Tests.{first_passes}
use Rattle.access.specs.Limits.{max_rules, max_rulesets}
use Rattle.access.specs.declared.errno.Reply.TheVariants.{Done}
use Rattle.tables.specs.Tables.{Tables, ruleset_width, level}
use Rattle.tables.specs.Layers.{Layer, handles_any, is_open}
use Rattle.tables.specs.Outcome.{Outcome}
use Rattle.sound_rules.specs.Rules.{masks_known}
use Rattle.sound.specs.Sound.{sound}
use Rattle.sound.proofs.Facts.{facts}
use Rattle.sound.proofs.Calls.{call-done}
use Rattle.ruleset.specs.Attribute.{fs_mask, net_mask, scope_mask}
use Rattle.ruleset.specs.Create.{free_ruleset, create_checks, create_done, created, opened}
use Rattle.kept_rulesets.proofs.Create.{kept-created}
use Rattle.theorems.specs.Calls.{create_ruleset, outcome_of}
use Rattle.policy.specs.Files.{max_ruleset_name}
use Rattle.policy.specs.Meaning.{Rule, rules_of}
use Rattle.policy_write.specs.Written.{masks_bytes, written}
use Rattle.policy_write.proofs.Bytes.{MasksFit, FitAll, fs_back, net_back, scope_back}
use Rattle.policy_write.proofs.Reading.{rules_read_back, attribute_read_back}
use Rattle.named.specs.Named.{Named, with_names, named_sound, NamedOutcome, named_outcome}
use Rattle.named.specs.Policy.{on_named, add_rules, then_add, applied}
use Rattle.named.proofs.Made.{core-sound, names-sound, lift-goes}
use Rattle.policy_written.proofs.Create.{create_passes}
use Rattle.policy_written.proofs.Filled.{Raw}
use Rattle.policy_written.proofs.Adds.{Fresh, Having, AllFit, all-added}

module _ (N : Named) (sound_now : named_sound N ≡ true) (working : level N.core.system ≡ 0 → ⊥) (L : Layer) (fits : MasksFit L)
    (known : masks_known (level N.core.system) L.fs L.net L.scope ≡ true) (handles : handles_any L.fs L.net L.scope ≡ true)
    (free : free_ruleset N.core.rulesets < max_rulesets) where
  abbrev pub made : ℕ
  made = free_ruleset N.core.rulesets

  abbrev bs : List ℕ
  bs = masks_bytes L

  abbrev T : Tables
  T = N.core

  -- what the create leaves
  abbrev begun : Named
  begun = with_names (create_done T bs).left N.names

  -- the new ruleset has the rules
  abbrev pub Made : Named → List Raw → Type 0
  Made X qs = Having N (names-sound N sound_now) working made L.fs L.net L.scope handles X qs

  is-created : created T bs 0 ≡ create_done T bs
  unfolding created
  is-created =
      let z = create_passes L fits T working known handles free in
      sym (call-done T (create_checks T bs 0) (create_done T bs) {b = true} {e = 0} (sym (core-sound N sound_now)) refl (sym z) refl)

  was_free : is_open T.rulesets made ≡ false
  unfolding free_ruleset
  was_free = not-true _ (first_passes (λ r. not (is_open T.rulesets r)) max_rulesets free)

  -- the masks and no rules
  begins : Made begun []
  unfolding create_done opened
  begins =
      let S = facts T (core-sound N sound_now) in
      let len = S.lengths.rulesets in
      let rs = T.rulesets in
      let r = made in
      let a : List ℕ = put_cell rs ruleset_width r 0 (fs_mask bs) in
      let b : List ℕ = put_cell a ruleset_width r 1 (net_mask bs) in
      let c : List ℕ = put_cell b ruleset_width r 2 (scope_mask bs) in
      let la = length-put_cell rs ruleset_width r 0 (fs_mask bs) in
      let lb = length-put_cell a ruleset_width r 1 (net_mask bs) in
      let lc = length-put_cell b ruleset_width r 2 (scope_mask bs) in
      record {
        still = subst (λ (o : Outcome). sound o.left ≡ true) is-created (kept-created T bs 0 (core-sound N sound_now));
        same-system = refl;
        same_entries = refl;
        same_names = refl;
        filled = record {
          long = lc ∙ lb ∙ la ∙ len;
          small = free;
          few = omega arith;
          count = cell_put_beside b ruleset_width r 2 (scope_mask bs) 3 (omega arith) ∙ cell_put_beside a ruleset_width r 1 (net_mask bs) 3 (omega arith)
              ∙ cell_put_beside rs ruleset_width r 0 (fs_mask bs) 3 (omega arith) ∙ S.rulesets.closed r free was_free 3 (omega arith);
          sorts = λ i h. absurd (omega arith);
          keys = λ i h. absurd (omega arith);
          grants = λ i h. absurd (omega arith);
        };
        fs-is = cell_put_beside b ruleset_width r 2 (scope_mask bs) 0 (omega arith) ∙ cell_put_beside a ruleset_width r 1 (net_mask bs) 0 (omega arith) ∙ cell_put rs ruleset_width r 0 (fs_mask bs) (omega arith) ∙ fs_back L fits;
        net-is = cell_put_beside b ruleset_width r 2 (scope_mask bs) 1 (omega arith) ∙ cell_put a ruleset_width r 1 (net_mask bs) (omega arith) ∙ net_back L fits;
        scope-is = cell_put b ruleset_width r 2 (scope_mask bs) (omega arith) ∙ scope_back L fits;
      }

  module _ (name : List ℕ) (cs : List Rule) (qs : List Raw) (some : 1 ≤ length name) (short : length name ≤ max_ruleset_name) (fit : FitAll cs)
      (fitting : AllFit N (names-sound N sound_now) working made L.fs L.net L.scope handles cs qs) (fresh : Fresh [] qs) (few : length qs ≤ max_rules) where
    abbrev file : List ℕ
    file = written name L cs

    after-create : on_named N (create_ruleset bs 0) ≡ named_outcome (Done made) begun
    unfolding outcome_of create_done
    after-create =
        sym (lift-goes N (outcome_of T (create_ruleset bs 0)) (names-sound N sound_now))
        ∙ ap (λ (o : Outcome). named_outcome o.reply (with_names o.left N.names)) is-created

    is-added : applied N file ≡ add_rules made cs begun
    unfolding applied then_add
    is-added =
        ap (λ (v : List ℕ). then_add (rules_of (level T.system) file) (on_named N (create_ruleset v 0)).reply (on_named N (create_ruleset v 0)).left) (attribute_read_back name L cs some short fit (level T.system))
        ∙ ap (λ (o : NamedOutcome). then_add (rules_of (level T.system) file) o.reply o.left) after-create
        ∙ ap (λ (l : List Rule). add_rules made l begun) (rules_read_back name L cs some short fit (level T.system))

    all_in : ((add_rules made cs begun).reply ≡ Done made) × Made (add_rules made cs begun).left qs
    all_in = all-added N (names-sound N sound_now) working made L.fs L.net L.scope handles cs qs begun [] begins fitting fresh (omega arith)

    pub applied-done : (applied N file).reply ≡ Done made
    applied-done = ap (λ (o : NamedOutcome). o.reply) is-added ∙ all_in.0

    pub applied-has : Made (applied N file).left qs
    applied-has = subst (λ (o : NamedOutcome). Made o.left qs) (sym is-added) all_in.1
