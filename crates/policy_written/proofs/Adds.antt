-- Adding rules that fit: every add succeeds, and the new ruleset then has exactly these rules. Assumes nothing.
use mathlib.Core.Path.{◌≡◌, refl, sym, ap, ◌∙◌, subst}
use mathlib.Core.Bool.{true, false}
use mathlib.Core.List.{List, [], ◌∷◌, ◌++◌, append_assoc, append-nil}
use Prim.Native.Nat.{ℕ, ◌+◌, ◌≤◌, ◌<◌}
use native.Mathlib.Omega.{arith}
use lib.Dec.{eqb, leb, ltb}
use lib.ListN.{length, length-append}
use borrow.Author.Tests.{ne_eqb, lt-leb, le-leb, le-ltb}
use Rattle.laws.specs.Cells.{cell}
use Rattle.laws.specs.Refusals.{Check, first}
use Rattle.laws.proofs.Bools.{both}
use Rattle.access.specs.Limits.{max_rules, max_port}
use Rattle.access.specs.Rights.{within}
use Rattle.access.specs.declared.errno.Reply.{Reply}
use Rattle.access.specs.declared.errno.Reply.TheVariants.{Done}
use Rattle.tables.specs.Tables.{Tables, ruleset_width, level, object, live, past_file_set, path_rule, port_rule}
use Rattle.tables.specs.Layers.{handles_any, ruleset_count, ruleset_at, is_open}
use Rattle.tables.specs.Outcome.{Outcome, outcome}
use Rattle.sound.specs.Sound.{sound}
use Rattle.sound.specs.Call.{call}
use Rattle.sound.proofs.Calls.{call-done}
use Rattle.rule.specs.Rule.{place_in, is_full, sweeping, add_form, path_form, port_form, add_path_checks, add_port_checks, add_done, path_added, port_added}
use Rattle.kept_rulesets.proofs.Add.{kept-path-added, kept-port-added}
use Rattle.theorems.specs.Calls.{Call, add_path_rule, add_port_rule, outcome_of}
use Rattle.names.specs.Names.{names_sound}
use Rattle.names.specs.Paths.{max_path, path_of}
use Rattle.policy.specs.Meaning.{Rule, path, port}
use Rattle.named.specs.Named.{Named, with_names, named_sound, NamedOutcome, named_outcome}
use Rattle.named.specs.Policy.{lookup_named, add_at, add_rule, or_close, add_rules}
use Rattle.named.specs.Calls.{outcome_named}
use Rattle.named.proofs.Lookup.{lookup-path}
use Rattle.named.proofs.Made.{lift-goes}
use Rattle.policy_written.proofs.Filled.{Raw, Filled, New, new-place, filled-added, head_kept}

looked_up_lem : (X : Named) (e : ℕ) → named_sound X ≡ true → live X.core.entries e ≡ true → length (path_of X.core.entries X.names e) ≤ max_path
    → (lookup_named X (path_of X.core.entries X.names e)).reply ≡ Done e
unfolding outcome_named
looked_up_lem X e h l s = lookup-path X e h l s

-- rules with keys that are not among the earlier ones
unfoldable pub Fresh : List Raw → List Raw → Type 0
Fresh L [] = Unit {0}
Fresh L (q ∷ qs) = New L q.sort q.key × Fresh (L ++ q ∷ []) qs

-- the tables while rules are added to the ruleset r of the masks: all but its row is as in N, and it has the rules so far
module _ (N : Named) (names-now : names_sound N.core.entries N.names ≡ true) (working : level N.core.system ≡ 0 → ⊥)
    (r fs net scope : ℕ) (handles : handles_any fs net scope ≡ true) where
  pub record Having (X : Named) (L : List Raw) : Type 0 where
    pub still : sound X.core ≡ true
    pub same-system : X.core.system ≡ N.core.system
    pub same_entries : X.core.entries ≡ N.core.entries
    pub same_names : X.names ≡ N.names
    pub filled : Filled X.core.rulesets r L
    pub fs-is : cell X.core.rulesets ruleset_width r 0 ≡ fs
    pub net-is : cell X.core.rulesets ruleset_width r 1 ≡ net
    pub scope-is : cell X.core.rulesets ruleset_width r 2 ≡ scope

  module _ (X : Named) (L : List Raw) (H : Having X L) where
    names-still : names_sound X.core.entries X.names ≡ true
    names-still = rw (H.same_entries, H.same_names) names-now

    all-still : named_sound X ≡ true
    unfolding named_sound
    all-still = both (sound X.core) _ H.still names-still

    open_row : is_open X.core.rulesets r ≡ true
    unfolding is_open
    open_row = rw (H.fs-is, H.net-is, H.scope-is) handles

    -- ---- one more rule, with a key of its own
    module _ (q : Raw) (new : New L q.sort q.key) (room : length L < max_rules) (some : q.rights ≡ 0 → ⊥) where
      abbrev left : Tables
      left = (add_done X.core r q.sort q.key q.rights).left

      not_full : is_full X.core.rulesets r q.sort q.key ≡ false
      unfolding is_full
      not_full =
          let p : place_in X.core.rulesets r q.sort q.key ≡ length L = new-place X.core.rulesets r L H.filled q.sort q.key new in
          let c : ruleset_count X.core.rulesets r ≡ length L = H.filled.count in
          rw (p, c, le-leb (length L) (length L) (omega arith), lt-leb max_rules (length L) room)

      -- what the add leaves
      one_more : sound left ≡ true → Having (with_names left X.names) (L ++ q ∷ [])
      unfolding add_done
      one_more s =
          let h = head_kept X.core.rulesets r L H.filled q new room in
          record {
            still = s;
            same-system = H.same-system;
            same_entries = H.same_entries;
            same_names = H.same_names;
            filled = filled-added X.core.rulesets r L H.filled q new room;
            fs-is = h 0 (omega arith) ∙ H.fs-is;
            net-is = h 1 (omega arith) ∙ H.net-is;
            scope-is = h 2 (omega arith) ∙ H.scope-is;
          }

      path_passes : (e : ℕ) → q.sort ≡ path_rule → object X.core.entries e ≡ q.key → within q.rights fs ≡ true → live X.core.entries e ≡ true → sweeping e q.rights ≡ false
          → past_file_set X.core.entries e q.rights ≡ false → first (add_path_checks X.core r e q.rights 0) ≡ 0
      unfolding add_path_checks add_form path_form first ruleset_at
      path_passes e s o w l sw p =
          let full : is_full X.core.rulesets r path_rule (object X.core.entries e) ≡ false = rw (o, ← s) not_full in
          rw (H.same-system, ne_eqb (level N.core.system) 0 working, open_row, ne_eqb q.rights 0 some, H.fs-is, w, l, sw, p, full)

      port_passes : q.sort ≡ port_rule → q.key ≤ max_port → within q.rights net ≡ true → first (add_port_checks X.core r q.key q.rights 0) ≡ 0
      unfolding add_port_checks add_form port_form first ruleset_at
      port_passes s b w =
          let full : is_full X.core.rulesets r port_rule q.key ≡ false = rw (← s) not_full in
          rw (H.same-system, ne_eqb (level N.core.system) 0 working, open_row, ne_eqb q.rights 0 some, H.net-is, w, le-ltb max_port q.key b, full)

      abbrev Added : Rule → Type 0
      Added c = ((add_rule r X c).reply ≡ Done 0) × Having (add_rule r X c).left (L ++ q ∷ [])

      -- a call that does what an add does
      by_done : (c : Rule) (o : Outcome) → add_rule r X c ≡ named_outcome o.reply (with_names o.left X.names) → o ≡ add_done X.core r q.sort q.key q.rights → sound o.left ≡ true → Added c
      unfolding add_done
      by_done c o a e s =
          let d : add_rule r X c ≡ named_outcome (Done 0) (with_names left X.names) = a ∙ ap (λ (p : Outcome). named_outcome p.reply (with_names p.left X.names)) e in
          (ap (λ (p : NamedOutcome). p.reply) d, subst (λ (p : NamedOutcome). Having p.left (L ++ q ∷ [])) (sym d) (one_more (subst (λ (p : Outcome). sound p.left ≡ true) e s)))

      path-added : (p : List ℕ) (e : ℕ) → q.sort ≡ path_rule → object X.core.entries e ≡ q.key → within q.rights fs ≡ true → live X.core.entries e ≡ true → sweeping e q.rights ≡ false
          → past_file_set X.core.entries e q.rights ≡ false → (lookup_named X p).reply ≡ Done e → Added (path q.rights p)
      unfolding add_rule add_at outcome_of path_added
      path-added p e s o w l sw f k =
          let z = path_passes e s o w l sw f in
          by_done (path q.rights p) (path_added X.core r e q.rights 0)
          (ap (add_at X r q.rights) k ∙ sym (lift-goes X (outcome_of X.core (add_path_rule r e q.rights 0)) names-still))
          (sym (call-done X.core (add_path_checks X.core r e q.rights 0) (add_done X.core r path_rule (object X.core.entries e) q.rights) {b = true} {e = 0} (sym H.still) refl (sym z) refl) ∙ rw (o, ← s))
          (kept-path-added X.core r e q.rights 0 H.still)

      port-added : q.sort ≡ port_rule → q.key ≤ max_port → within q.rights net ≡ true → Added (port q.rights q.key)
      unfolding add_rule outcome_of port_added
      port-added s b w =
          let z = port_passes s b w in
          by_done (port q.rights q.key) (port_added X.core r q.key q.rights 0)
          (sym (lift-goes X (outcome_of X.core (add_port_rule r q.key q.rights 0)) names-still))
          (sym (call-done X.core (add_port_checks X.core r q.key q.rights 0) (add_done X.core r port_rule q.key q.rights) {b = true} {e = 0} (sym H.still) refl (sym z) refl) ∙ rw (← s))
          (kept-port-added X.core r q.key q.rights 0 H.still)

  -- ---- rules that fit: what N tells of each
  pub record PathFits (rights : ℕ) (p : List ℕ) (q : Raw) : Type 0 where
    pub sort : q.sort ≡ path_rule
    pub grants : q.rights ≡ rights
    pub some : rights ≡ 0 → ⊥
    pub asked : within rights fs ≡ true
    pub entry : ℕ
    pub is-path : p ≡ path_of N.core.entries N.names entry
    pub short : length p ≤ max_path
    pub alive : live N.core.entries entry ≡ true
    pub of : object N.core.entries entry ≡ q.key
    pub allowed : sweeping entry rights ≡ false
    pub in_set : past_file_set N.core.entries entry rights ≡ false

  pub record PortFits (rights n : ℕ) (q : Raw) : Type 0 where
    pub sort : q.sort ≡ port_rule
    pub grants : q.rights ≡ rights
    pub some : rights ≡ 0 → ⊥
    pub asked : within rights net ≡ true
    pub of : q.key ≡ n
    pub in_range_lem : n ≤ max_port

  unfoldable pub Fitting : Rule → Raw → Type 0
  Fitting (path rights p) q = PathFits rights p q
  Fitting (port rights n) q = PortFits rights n q

  one_add : (X : Named) (L : List Raw) (H : Having X L) (c : Rule) (q : Raw) → Fitting c q → New L q.sort q.key → length L < max_rules → ((add_rule r X c).reply ≡ Done 0) × Having (add_rule r X c).left (L ++ q ∷ [])
  unfolding Fitting
  one_add X L H (path rights p) q f new room =
      let k : rights ≡ q.rights = sym f.grants in
      let es = H.same_entries in
      let e = f.entry in
      let i : p ≡ path_of X.core.entries X.names e = f.is-path ∙ sym (rw (es, H.same_names) refl) in
      let l : live X.core.entries e ≡ true = rw es f.alive in
      let s : length (path_of X.core.entries X.names e) ≤ max_path = subst (λ (w : List ℕ). length w ≤ max_path) i f.short in
      let found : (lookup_named X p).reply ≡ Done e = ap (λ (w : List ℕ). (lookup_named X w).reply) i ∙ looked_up_lem X e (all-still X L H) l s in
      subst (λ (m : ℕ). ((add_rule r X (path m p)).reply ≡ Done 0) × Having (add_rule r X (path m p)).left (L ++ q ∷ [])) (sym k)
      (path-added X L H q new room (λ z. f.some (k ∙ z)) p e f.sort (rw es f.of) (rw (← k) f.asked) l (rw (← k) f.allowed) (rw (es, ← k) f.in_set) found)
  one_add X L H (port rights n) q f new room =
      let k : rights ≡ q.rights = sym f.grants in
      let b = f.of in
      subst (λ (m : ℕ). ((add_rule r X (port m n)).reply ≡ Done 0) × Having (add_rule r X (port m n)).left (L ++ q ∷ [])) (sym k)
      (subst (λ (m : ℕ). ((add_rule r X (port q.rights m)).reply ≡ Done 0) × Having (add_rule r X (port q.rights m)).left (L ++ q ∷ [])) f.of
      (port-added X L H q new room (λ z. f.some (k ∙ z)) f.sort (rw b f.in_range_lem) (rw (← k) f.asked)))

  -- all of them, each with a key of its own
  unfoldable pub AllFit : List Rule → List Raw → Type 0
  AllFit [] [] = Unit {0}
  AllFit [] (q ∷ qs) = ⊥
  AllFit (c ∷ cs) [] = ⊥
  AllFit (c ∷ cs) (q ∷ qs) = Fitting c q × AllFit cs qs

  pub all-added : (cs : List Rule) (qs : List Raw) (X : Named) (L : List Raw) → Having X L → AllFit cs qs → Fresh L qs → length L + length qs ≤ max_rules
      → ((add_rules r cs X).reply ≡ Done r) × Having (add_rules r cs X).left (L ++ qs)
  unfolding add_rules AllFit Fresh or_close
  all-added [] [] X L H a f room = (refl, rw append-nil H)
  all-added [] (q ∷ qs) X L H a f room = absurd a
  all-added (c ∷ cs) [] X L H a f room = absurd a
  all-added (c ∷ cs) (q ∷ qs) X L H a f room =
      let s = one_add X L H c q a.0 f.0 (omega arith) in
      let l : length (L ++ q ∷ []) ≡ length L + 1 = length-append L (q ∷ []) in
      let t = all-added cs qs (add_rule r X c).left (L ++ q ∷ []) s.1 a.1 f.1 (omega arith) in
      rw s.0 (t.0, subst (λ (M : List Raw). Having (add_rules r cs (add_rule r X c).left).left M) (append_assoc L (q ∷ []) qs) t.1)
