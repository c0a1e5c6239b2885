-- What sound tables and the refusals of a write tell of the ruleset that is written. Assumes nothing.
use mathlib.Core.Path.{◌≡◌, refl, sym, ap, ◌∙◌, subst}
use mathlib.Core.Bool.{Bool, true, false, not, ◌&&◌, ◌||◌}
use mathlib.Core.List.{List}
use Prim.Native.Nat.{ℕ, ◌^◌, ◌≤◌, ◌<◌}
use native.Mathlib.Omega.{arith}
use lib.Bits.{and_le_l, or_lt}
use lib.Dec.{eqb, leb, ltb}
use lib.ListN.{length}
use borrow.Author.Tests.{eqb-true, eqb-false, eq-eqb, ne_eqb, ltb-false, leb-false, not-false}
use Rattle.laws.specs.Refusals.{first}
use Rattle.laws.proofs.Bools.{split, clash, or_l, or_r, either}
use Rattle.laws.proofs.Refusals.{passed}
use Rattle.access.specs.Limits.{max_entries, max_rules}
use Rattle.access.specs.Rights.{meet, within, since, file_set, known_fs, known_net, known_scope, join, REFER, TRUNCATE, IOCTL_DEV, BIND_TCP, CONNECT_TCP, ABSTRACT_UNIX_SOCKET, SIGNAL}
use Rattle.access.specs.declared.errno.Reply.{Reply}
use Rattle.access.specs.declared.errno.Reply.TheVariants.{Done}
use Rattle.tables.specs.Tables.{level, counter, object, live, is_dir, past_file_set, path_rule, port_rule, rule_type, rule_key, rule_rights}
use Rattle.tables.specs.Layers.{Layer, handles_any, ruleset_at, is_open}
use Rattle.sound_tree.proofs.Facts.{Tree}
use Rattle.sound_rules.specs.Rules.{rule_count, masks_known}
use Rattle.sound_rules.proofs.Facts.{PathRule, PortRule, Rules, masks-known}
use Rattle.sound_rulesets.proofs.Facts.{OpenRuleset}
use Rattle.sound.proofs.Facts.{Sound, facts}
use Rattle.rule.specs.Rule.{sweeping}
use Rattle.kept_rulesets.proofs.Rows.{rules-count, open_small}
use Rattle.names.specs.Paths.{max_path, found, path_of}
use Rattle.names.proofs.Facts.{Names, names}
use Rattle.names.proofs.Paths.{path-found}
use Rattle.policy.specs.Files.{max_ruleset_name}
use Rattle.policy.specs.Find.{max_file}
use Rattle.policy_write.specs.Order.{Keyed}
use Rattle.policy_write.specs.Chosen.{chosen, chosen_path}
use Rattle.policy_write.specs.File.{keyed, policy_file, write_form, write_rules, write_room, write_checks}
use Rattle.policy_write.proofs.Lists.{In}
use Rattle.policy_write.proofs.Bytes.{MasksFit}
use Rattle.policy_write.proofs.Chosen.{chosen_live, chosen-object}
use Rattle.policy_write.proofs.Keys.{Keys, keyed_of, no_path}
use Rattle.policy_write.proofs.Agreed.{Writable}
use Rattle.named.specs.Named.{Named, named_sound}
use Rattle.named.proofs.Made.{core-sound, names-sound}

-- ---- rights that a level knows are small numbers
within_lt : (a b n : ℕ) → within a b ≡ true → b < n → a < n
within_lt a b n w h = let e = eqb-true (meet b a) a w in let l = and_le_l b a in omega arith

since_lt : (n level m : ℕ) → m < 2 ^ 64 → since n level m < 2 ^ 64
since_lt n level m h = split (leb n level) (λ q. rw q h) (λ q. rw q (omega arith))

fs_lt : (level : ℕ) → known_fs level < 2 ^ 64
unfolding known_fs
fs_lt level =
    or_lt 64 _ _ (since_lt 1 level 8191 (omega arith))
    (or_lt 64 _ _ (since_lt 2 level REFER (omega arith)) (or_lt 64 _ _ (since_lt 3 level TRUNCATE (omega arith)) (since_lt 5 level IOCTL_DEV (omega arith))))

net_lt : (level : ℕ) → known_net level < 2 ^ 64
unfolding known_net
net_lt level = since_lt 4 level (join BIND_TCP CONNECT_TCP) (omega arith)

scope_lt : (level : ℕ) → known_scope level < 2 ^ 64
unfolding known_scope
scope_lt level = since_lt 6 level (join ABSTRACT_UNIX_SOCKET SIGNAL) (omega arith)

done-same : (a b : ℕ) → ◌≡◌ {A = Reply} (Done a) (Done b) → a ≡ b
done-same a b e = cc

-- ---- sound tables
module _ (N : Named) (h : named_sound N ≡ true) where
  abbrev pub es : List ℕ
  es = N.core.entries

  abbrev pub ns : List ℕ
  ns = N.names

  -- the object has an entry
  abbrev pub Has : ℕ → Type 0
  Has o = chosen es ns o < max_entries

  abbrev pub S : Sound N.core
  S = facts N.core (core-sound N h)

  -- its path leads to the chosen entry
  pub path_leads : (o : ℕ) → Has o → found es ns (chosen_path es ns o) ≡ Done (chosen es ns o)
  unfolding chosen_path
  path_leads o k = path-found es ns _ S.tree (names es ns (names-sound N h)) (chosen es ns o) (chosen_live es o ns k)

  -- so no two objects have one path
  pub one_object : (a b : ℕ) → Has a → Has b → chosen_path es ns a ≡ chosen_path es ns b → a ≡ b
  one_object a b p q e =
      let c : chosen es ns a ≡ chosen es ns b = done-same (chosen es ns a) (chosen es ns b) (sym (path_leads a p) ∙ ap (found es ns) e ∙ path_leads b q) in
      sym (chosen-object es a ns p) ∙ ap (object es) c ∙ chosen-object es b ns q

  module _ (r : ℕ) where
    abbrev pub L : Layer
    L = ruleset_at N.core.rulesets r

    -- an open ruleset
    module _ (is_open_lem : is_open N.core.rulesets r ≡ true) where
      small : r < 16
      small = open_small N.core.rulesets r S.lengths.rulesets is_open_lem

      abbrev O : OpenRuleset es (counter N.core.system) (level N.core.system) N.core.rulesets r
      O = S.rulesets.opened r small is_open_lem

      abbrev R : Rules es (counter N.core.system) L.fs L.net L.rules
      R = O.rules

      pub masks_fit : MasksFit L
      unfolding MasksFit
      masks_fit =
          let lv = level N.core.system in
          (within_lt _ (known_fs lv) (2 ^ 64) O.masks.fs-known (fs_lt lv), within_lt _ (known_net lv) (2 ^ 64) O.masks.net-known (net_lt lv), within_lt _ (known_scope lv) (2 ^ 64) O.masks.scope-known (scope_lt lv))

      pub fs-fits : L.fs < 2 ^ 64
      unfolding MasksFit
      fs-fits = masks_fit.0

      pub net-fits : L.net < 2 ^ 64
      unfolding MasksFit
      net-fits = masks_fit.1

      pub level_knows : masks_known (level N.core.system) L.fs L.net L.scope ≡ true
      level_knows = masks-known (level N.core.system) L.fs L.net L.scope O.masks

      pub has-masks : handles_any L.fs L.net L.scope ≡ true
      unfolding is_open ruleset_at
      has-masks = is_open_lem

      pub few-rules : rule_count L.rules ≤ max_rules
      few-rules = let e = rules-count N.core.rulesets r S.lengths.rulesets small O.few in let f = O.few in omega arith

      pub keys : Keys L.rules
      keys = record {
        apart = R.distinct;
        grants = λ i l. either (R.typed i l) (λ t. (R.path i l t).some) (λ t. (R.port i l t).some);
      }

      -- what is known of each path rule and of each port rule
      pub path-rule : (x : Keyed ℕ) → In x (keyed path_rule L.rules) → PathRule es (counter N.core.system) L.fs x.key x.rights
      path-rule x m =
          let a = keyed_of path_rule L.rules x m in
          subst (λ (w : Keyed ℕ). PathRule es (counter N.core.system) L.fs w.key w.rights) (sym a.3) (R.path a.0 a.1 a.2)

      pub port-rule : (x : Keyed ℕ) → In x (keyed port_rule L.rules) → PortRule L.net x.key x.rights
      port-rule x m =
          let a = keyed_of port_rule L.rules x m in
          subst (λ (w : Keyed ℕ). PortRule L.net w.key w.rights) (sym a.3) (R.port a.0 a.1 a.2)

    -- ---- what a write that is not refused tells besides
    module _ (name out : List ℕ) where
      pub record Goes : Type 0 where
        pub working : level N.core.system ≡ 0 → ⊥
        pub is_open_lem : is_open N.core.rulesets r ≡ true
        pub some : 1 ≤ length name
        pub short : length name ≤ max_ruleset_name
        pub no_sweep : (x : Keyed ℕ) → In x (keyed path_rule L.rules) → (eqb x.key (object es 0) && sweeping 0 x.rights) ≡ false
        pub has : (x : Keyed ℕ) → In x (keyed path_rule L.rules) → Has x.key
        pub short-path : (x : Keyed ℕ) → In x (keyed path_rule L.rules) → length (chosen_path es ns x.key) ≤ max_path
        pub not_big : length (policy_file es N.core.rulesets ns r name) ≤ max_file
        pub room : length (policy_file es N.core.rulesets ns r name) ≤ length out

      pub goes : first (write_checks N.core ns r name out) ≡ 0 → Goes
      unfolding write_checks write_form write_rules write_room
      goes z =
          let p = passed (write_checks N.core ns r name out) z in
          let n = p.1.1.0 in
          let a = eqb-false (length name) 0 (or_l (eqb (length name) 0) (ltb max_ruleset_name (length name)) n) in
          let q = p.1.1.1 in
          let w = q.1.1.1 in
          record {
            working = eqb-false (level N.core.system) 0 p.0;
            is_open_lem = not-false _ p.1.0;
            some = omega arith;
            short = ltb-false max_ruleset_name (length name) (or_r (eqb (length name) 0) (ltb max_ruleset_name (length name)) n);
            no_sweep = no_path (λ o rights. eqb o (object es 0) && sweeping 0 rights) L.rules q.0;
            has = λ x m. leb-false max_entries (chosen es ns x.key) (no_path (λ o rights. leb max_entries (chosen es ns o)) L.rules q.1.0 x m);
            short-path = λ x m. ltb-false max_path (length (chosen_path es ns x.key)) (no_path (λ o rights. ltb max_path (length (chosen_path es ns o))) L.rules q.1.1.0 x m);
            not_big = ltb-false max_file _ w.0;
            room = ltb-false (length out) _ w.1.0;
          }

      module _ (G : Goes) where
        pub writable : Writable (chosen_path es ns) Has one_object L
        writable = record {
          masks = masks_fit G.is_open_lem;
          few = few-rules G.is_open_lem;
          keys = keys G.is_open_lem;
          paths_grant = λ x m. within_lt x.rights L.fs (2 ^ 64) (path-rule G.is_open_lem x m).asked (fs-fits G.is_open_lem);
          ports_grant = λ x m. within_lt x.rights L.net (2 ^ 64) (port-rule G.is_open_lem x m).asked (net-fits G.is_open_lem);
          port-fits = λ x m. (port-rule G.is_open_lem x m).in_range_lem;
          path-fits = G.short-path;
          has = G.has;
        }

        -- W6 allows the rule on its entry, and a file's entry has rights for it
        pub allowed : (x : Keyed ℕ) → In x (keyed path_rule L.rules) → sweeping (chosen es ns x.key) x.rights ≡ false
        unfolding sweeping
        allowed x m =
            let c = chosen es ns x.key in
            split (eqb c 0)
            (λ q.
            let e : x.key ≡ object es 0 = sym (chosen-object es x.key ns (G.has x m)) ∙ ap (object es) (eqb-true c 0 q) in
            rw q (rw (eq-eqb x.key (object es 0) e) at (G.no_sweep x m)))
            (λ q. rw q)

        pub in_file_set : (x : Keyed ℕ) → In x (keyed path_rule L.rules) → past_file_set es (chosen es ns x.key) x.rights ≡ false
        unfolding past_file_set
        in_file_set x m =
            let c = chosen es ns x.key in
            let k = G.has x m in
            split (is_dir es c)
            (λ d. rw d)
            (λ d. rw (d, (path-rule G.is_open_lem x m).fits c k (chosen_live es x.key ns k) d (chosen-object es x.key ns k)))
