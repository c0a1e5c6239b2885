-- Adding a rule, for a path or for a port, keeps sound tables sound. Assumes nothing.
use mathlib.Core.Path.{◌≡◌, refl, sym, ap, ◌∙◌}
use mathlib.Core.Bool.{true, false}
use mathlib.Core.List.{List}
use mathlib.Core.Logic.{inl, inr}
use Prim.Native.Nat.{ℕ, ◌+◌, ◌*◌, ◌≤◌, ◌<◌}
use native.Mathlib.Omega.{arith}
use lib.Dec.{eqb, ltb, leb}
use lib.ListN.{length}
use borrow.Author.Tests.{eqb-true, eqb-false, eq-eqb, ltb-true, ltb-false, leb-true, leb-false, not-false}
use Rattle.laws.specs.Cells.{cell, put_cell}
use Rattle.laws.proofs.Bools.{and_l, and_r, both, not_of_false, clash, split}
use Rattle.laws.proofs.Tests.{first_passes, first_least}
use Rattle.laws.proofs.Refusals.{passed}
use Rattle.laws.proofs.Cells.{cell_put, cell_put_beside}
use Rattle.access.specs.Kinds.{directory}
use Rattle.access.specs.Limits.{max_entries, max_rules, max_rulesets, max_port}
use Rattle.access.specs.Rights.{join, within, file_set}
use Rattle.tables.specs.Tables.{Tables, ruleset_width, level, counter, object, live, is_dir, past_file_set, path_rule, port_rule, rule_type, rule_key}
use Rattle.tables.specs.Layers.{ruleset_count, ruleset_at, is_open}
use Rattle.tables.specs.Outcome.{with_rulesets}
use Rattle.sound_rules.specs.Rules.{rule_count}
use Rattle.sound_tree.proofs.Facts.{Tree}
use Rattle.sound.specs.Sound.{sound}
use Rattle.sound.proofs.Facts.{Sound, facts, sound_of}
use Rattle.judge.specs.Rules.{is_rule, rule_place}
use Rattle.rule.specs.Rule.{add_form, place_in, path_form, port_form, add_path_checks, add_port_checks, rule_cell, joined, appended, added, add_done, path_added, port_added}
use Rattle.sound.proofs.Calls.{kept-call}
use Rattle.kept_rulesets.proofs.Rows.{Rule, Row, rules-count, rule-cell, row_of, open_small, OneRow, one_none, one_put, kept_row}
use Rattle.kept_rulesets.proofs.Rules.{row_joined, row_appended}

-- ---- the place of a rule, by the cells of the row
module _ (rs : List ℕ) (r : ℕ) (long : length rs ≡ ruleset_width * max_rulesets) (small : r < max_rulesets) (few : ruleset_count rs r ≤ max_rules) (ty key : ℕ) where
  -- a rule that was found is for the key
  found : place_in rs r ty key < ruleset_count rs r
      → (cell rs ruleset_width r (rule_cell (place_in rs r ty key) 0) ≡ ty) × (cell rs ruleset_width r (rule_cell (place_in rs r ty key) 1) ≡ key)
  unfolding rule_place is_rule
  found l =
      let rules = (ruleset_at rs r).rules in
      let p = place_in rs r ty key in
      let n = rules-count rs r long small few in
      let h = first_passes (is_rule rules ty key) (rule_count rules) (omega arith) in (
        sym (rule-cell rs r long small few p 0 l (omega arith)) ∙ eqb-true (rule_type rules p) ty (and_r (eqb (rule_key rules p) key) _ h),
        sym (rule-cell rs r long small few p 1 l (omega arith)) ∙ eqb-true (rule_key rules p) key (and_l _ (eqb (rule_type rules p) ty) h),
      )

  -- where none was found, none is
  missed : ruleset_count rs r ≤ place_in rs r ty key
      → (i : ℕ) → i < ruleset_count rs r → cell rs ruleset_width r (rule_cell i 0) ≡ ty → cell rs ruleset_width r (rule_cell i 1) ≡ key → ⊥
  unfolding rule_place is_rule
  missed g i l t k =
      let rules = (ruleset_at rs r).rules in
      clash (is_rule rules ty key i)
      (both _ _ (eq-eqb (rule_key rules i) key (rule-cell rs r long small few i 1 l (omega arith) ∙ k)) (eq-eqb (rule_type rules i) ty (rule-cell rs r long small few i 0 l (omega arith) ∙ t)))
      (first_least (is_rule rules ty key) (rule_count rules) i (omega arith))

-- ---- any rule added to an open ruleset
module _ (T : Tables) (S : Sound T) (r ty key rights : ℕ) (opn : is_open T.rulesets r ≡ true) (working : level T.system ≡ 0 → ⊥)
    (new : Rule T.entries (counter T.system) (cell T.rulesets ruleset_width r 0) (cell T.rulesets ruleset_width r 1) ty key rights) where
  long : length T.rulesets ≡ ruleset_width * max_rulesets
  long = S.lengths.rulesets

  small : r < max_rulesets
  small = open_small T.rulesets r long opn

  row : Row T.entries (counter T.system) (level T.system) (λ k. cell T.rulesets ruleset_width r k)
  row = row_of T.entries (counter T.system) (level T.system) T.rulesets r long small (S.rulesets.opened r small opn)

  -- a row with the masks that it had and sound rules
  kept-rules : (rs : List ℕ) → OneRow r T.rulesets rs
      → ((k : ℕ) → k < 3 → cell rs ruleset_width r k ≡ cell T.rulesets ruleset_width r k)
      → Row T.entries (counter T.system) (level T.system) (λ k. cell rs ruleset_width r k)
      → sound (with_rulesets T rs) ≡ true
  unfolding is_open
  kept-rules rs O same R =
      let still : is_open rs r ≡ true = rw (same 0 (omega arith), same 1 (omega arith), same 2 (omega arith)) opn in
      kept_row T S rs r O (λ l o. R) (λ l o. clash (is_open rs r) still o) (λ z. absurd (working z))

  kept-joined : place_in T.rulesets r ty key < ruleset_count T.rulesets r → sound (with_rulesets T (joined T.rulesets r (place_in T.rulesets r ty key) rights)) ≡ true
  unfolding joined
  kept-joined l =
      let rs = T.rulesets in
      let p = place_in rs r ty key in
      let at = rule_cell p 2 in
      let v = join (cell rs ruleset_width r at) rights in
      let few = row.few in
      let w = long in
      let s = small in
      let f = found rs r long small few ty key l in
      let same : (k : ℕ) → (k ≡ at → ⊥) → cell (put_cell rs ruleset_width r at v) ruleset_width r k ≡ cell rs ruleset_width r k = cell_put_beside rs ruleset_width r at v in
      kept-rules (put_cell rs ruleset_width r at v) (one_put at v (omega arith) one_none) (λ k m. same k (omega arith))
      (row_joined T.entries (counter T.system) (level T.system) (λ k. cell rs ruleset_width r k) (λ k. cell (put_cell rs ruleset_width r at v) ruleset_width r k)
      row ty key rights new p l f.0 f.1 (cell_put rs ruleset_width r at v (omega arith)) same)

  kept-appended : ruleset_count T.rulesets r ≤ place_in T.rulesets r ty key → ruleset_count T.rulesets r < max_rules
      → sound (with_rulesets T (appended T.rulesets r (ruleset_count T.rulesets r) ty key rights)) ≡ true
  unfolding appended
  kept-appended g room =
      let rs = T.rulesets in
      let n = ruleset_count rs r in
      let a = put_cell rs ruleset_width r (rule_cell n 0) ty in
      let b = put_cell a ruleset_width r (rule_cell n 1) key in
      let c = put_cell b ruleset_width r (rule_cell n 2) rights in
      let d = put_cell c ruleset_width r 3 (n + 1) in
      let few = row.few in
      let w = long in
      let s = small in
      let A : OneRow r rs a = one_put (rule_cell n 0) ty (omega arith) one_none in
      let B : OneRow r rs b = one_put (rule_cell n 1) key (omega arith) A in
      let C : OneRow r rs c = one_put (rule_cell n 2) rights (omega arith) B in
      let past_d : (k : ℕ) → (k ≡ 3 → ⊥) → cell d ruleset_width r k ≡ cell c ruleset_width r k = cell_put_beside c ruleset_width r 3 (n + 1) in
      let past-c : (k : ℕ) → (k ≡ rule_cell n 2 → ⊥) → cell c ruleset_width r k ≡ cell b ruleset_width r k = cell_put_beside b ruleset_width r (rule_cell n 2) rights in
      let past-b : (k : ℕ) → (k ≡ rule_cell n 1 → ⊥) → cell b ruleset_width r k ≡ cell a ruleset_width r k = cell_put_beside a ruleset_width r (rule_cell n 1) key in
      let same : (k : ℕ) → (k ≡ 3 → ⊥) → (k ≡ rule_cell n 0 → ⊥) → (k ≡ rule_cell n 1 → ⊥) → (k ≡ rule_cell n 2 → ⊥) → cell d ruleset_width r k ≡ cell rs ruleset_width r k =
      λ k x y z u. past_d k x ∙ past-c k u ∙ past-b k z ∙ cell_put_beside rs ruleset_width r (rule_cell n 0) ty k y in
      kept-rules d (one_put 3 (n + 1) (omega arith) C) (λ k m. same k (omega arith) (omega arith) (omega arith) (omega arith))
      (row_appended T.entries (counter T.system) (level T.system) (λ k. cell rs ruleset_width r k) (λ k. cell d ruleset_width r k)
      row ty key rights new room (missed rs r long small few ty key g)
      (let z = C.long in cell_put c ruleset_width r 3 (n + 1) (omega arith))
      (past_d (rule_cell n 0) (omega arith) ∙ past-c (rule_cell n 0) (omega arith) ∙ past-b (rule_cell n 0) (omega arith) ∙ cell_put rs ruleset_width r (rule_cell n 0) ty (omega arith))
      (past_d (rule_cell n 1) (omega arith) ∙ past-c (rule_cell n 1) (omega arith) ∙ (let z = A.long in cell_put a ruleset_width r (rule_cell n 1) key (omega arith)))
      (past_d (rule_cell n 2) (omega arith) ∙ (let z = B.long in cell_put b ruleset_width r (rule_cell n 2) rights (omega arith)))
      same)

  kept-added : sound (add_done T r ty key rights).left ≡ true
  unfolding add_done added
  kept-added =
      let n = ruleset_count T.rulesets r in
      let p = place_in T.rulesets r ty key in
      split (leb n p)
      (λ q. split (ltb n max_rules)
      (λ u. rw (q, u) (kept-appended (leb-true n p q) (ltb-true n max_rules u)))
      (λ u. rw (q, u) (sound_of T S)))
      (λ q. rw q (kept-joined (leb-false n p q)))

-- ---- a rule for a path: entries of one object agree in kind, so it fits them all
path-fits : (es : List ℕ) (next e rights : ℕ) → Tree es next → live es e ≡ true → past_file_set es e rights ≡ false
    → (f : ℕ) → f < max_entries → live es f ≡ true → is_dir es f ≡ false → object es f ≡ object es e → within rights file_set ≡ true
unfolding past_file_set is_dir
path-fits es next e rights Z l h f b lf df o = split (within rights file_set) (λ q. q)
    (λ q.
    let d : is_dir es e ≡ false = ap (λ (k : ℕ). eqb k directory) (Z.agreed.kinds_agree_lem e f l lf (sym o)) ∙ df in
    clash (past_file_set es e rights) (both _ _ (not_of_false (is_dir es e) d) (not_of_false (within rights file_set) q)) h)

pub kept-path-added : (T : Tables) (r e rights flags : ℕ) → sound T ≡ true → sound (path_added T r e rights flags).left ≡ true
unfolding path_added add_path_checks add_form path_form ruleset_at
kept-path-added T r e rights flags h = kept-call T (add_path_checks T r e rights flags) (add_done T r path_rule (object T.entries e) rights) (λ z.
    let S = facts T h in
    let p = passed (add_path_checks T r e rights flags) z in
    let f = p.1.1.1.1 in
    let alive : live T.entries e ≡ true = not-false _ f.1.0 in
    kept-added T S r path_rule (object T.entries e) rights (not-false _ p.1.1.0) (eqb-false (level T.system) 0 p.0)
    (record {
      typed = inl refl;
      path = λ t. record {
        below = S.tree.objects e alive;
        some = eqb-false rights 0 p.1.1.1.0;
        asked = not-false _ f.0;
        fits = path-fits T.entries (counter T.system) e rights S.tree alive f.1.1.1.0;
      };
      port = λ t. absurd (omega arith);
    })) h

pub kept-port-added : (T : Tables) (r port rights flags : ℕ) → sound T ≡ true → sound (port_added T r port rights flags).left ≡ true
unfolding port_added add_port_checks add_form port_form ruleset_at
kept-port-added T r port rights flags h = kept-call T (add_port_checks T r port rights flags) (add_done T r port_rule port rights) (λ z.
    let p = passed (add_port_checks T r port rights flags) z in
    let f = p.1.1.1.1 in
    kept-added T (facts T h) r port_rule port rights (not-false _ p.1.1.0) (eqb-false (level T.system) 0 p.0)
    (record {
      typed = inr refl;
      path = λ t. absurd (omega arith);
      port = λ t. record {
        in_range_lem = ltb-false max_port port f.1.0;
        some = eqb-false rights 0 p.1.1.1.0;
        asked = not-false _ f.0;
      };
    })) h
