-- While its rules are added, the tables differ from those before the create in the row of the new ruleset alone, and closing it makes that row what it was.
-- Assumes nothing.
use mathlib.Core.Path.{◌≡◌, refl, sym, ap, subst, ◌∙◌}
use mathlib.Core.Bool.{true, false, not}
use mathlib.Core.List.{List}
use Prim.Native.Nat.{ℕ, ◌+◌, ◌*◌, ◌/◌, ◌%◌, ◌≤◌, ◌<◌}
use native.Mathlib.Omega.{arith}
use lib.Dec.{eqb, leb, ltb}
use lib.ListN.{replicate}
use lib.Seq.{ext_get_or}
use borrow.Author.Tests.{leb-false, ltb-true, ltb-false, eqb-true, eqb-false, not-true, not-false}
use Rattle.laws.specs.Cells.{cell, put_cell}
use Rattle.laws.specs.Refusals.{Check, first}
use Rattle.laws.proofs.Bools.{split}
use Rattle.laws.proofs.Refusals.{passed}
use Rattle.laws.proofs.Tests.{first_passes}
use Rattle.laws.proofs.Cells.{cell_put, cell_put_beside, length-put_cell, get_or-zeros}
use Rattle.laws.proofs.Copies.{length-copied, copied-before, copied-after, copied_in}
use Rattle.access.specs.Errno.{EIO}
use Rattle.access.specs.Limits.{max_rules, max_rulesets}
use Rattle.tables.specs.Tables.{Tables, ruleset_width, object, path_rule, port_rule}
use Rattle.tables.specs.Layers.{ruleset_count, is_open, handles_any}
use Rattle.tables.specs.Outcome.{Outcome, refused, answer, with_rulesets}
use Rattle.sound.specs.Sound.{sound}
use Rattle.sound.specs.Call.{call}
use Rattle.sound.proofs.Facts.{Sound, facts}
use Rattle.sound.proofs.Calls.{call-done}
use Rattle.ruleset.specs.Attribute.{fs_mask, net_mask, scope_mask}
use Rattle.ruleset.specs.Create.{free_ruleset, create_form, create_masks, create_checks, opened, create_done, created, close_checks, closed_row, close_done, closed}
use Rattle.rule.specs.Rule.{place_in, rule_cell, joined, appended, added, add_done, add_path_checks, add_port_checks, path_added, port_added}
use Rattle.kept_rulesets.proofs.Rows.{OneRow, one_none, one_put, open_small}
use Rattle.kept_rulesets.proofs.Create.{kept-created}
use Rattle.kept_rulesets.proofs.Add.{kept-path-added, kept-port-added}

-- a call refuses and leaves the tables, or does what it does
pub by_call : (T : Tables) (cs : List Check) (done : Outcome) (P : Outcome → Type 0) → ((e : ℕ) → P (refused e T)) → (sound T ≡ true → first cs ≡ 0 → P done) → P (call T cs done)
unfolding call answer first
by_call T cs done P a b =
    split (sound T)
    (λ s. split (eqb (first cs) 0) (λ z. rw (s, z) (b s (eqb-true (first cs) 0 z))) (λ z. rw (s, z) (a (first cs))))
    (λ s. rw s (a EIO))

-- tables that differ from T in the row of an open ruleset at most
pub record Since (T : Tables) (r : ℕ) (X : Tables) : Type 0 where
  pub rest : X ≡ with_rulesets T X.rulesets
  pub row : OneRow r T.rulesets X.rulesets
  pub open_row : is_open X.rulesets r ≡ true
  pub still : sound X ≡ true

-- the same masks: still open
still_open : (rs old : List ℕ) (r : ℕ) → ((k : ℕ) → k < 3 → cell rs ruleset_width r k ≡ cell old ruleset_width r k) → is_open old r ≡ true → is_open rs r ≡ true
unfolding is_open
still_open rs old r same o = rw (same 0 (omega arith), same 1 (omega arith), same 2 (omega arith)) o

one_trans : {r : ℕ} {a b c : List ℕ} → OneRow r a b → OneRow r b c → OneRow r a c
one_trans O Q = record { long = Q.long ∙ O.long; others = λ j k d m. Q.others j k d m ∙ O.others j k d m }

-- ---- an add changes the ruleset's row alone, and not its masks
added_row : (rs : List ℕ) (r ty key rights : ℕ) → ruleset_count rs r ≤ max_rules → OneRow r rs (added rs r ty key rights) × ((k : ℕ) → k < 3 → cell (added rs r ty key rights) ruleset_width r k ≡ cell rs ruleset_width r k)
unfolding added appended joined
added_row rs r ty key rights few =
    let n = ruleset_count rs r in
    let p = place_in rs r ty key in
    split (leb n p)
    (λ q. split (ltb n max_rules)
    (λ u.
    let room = ltb-true n max_rules u in
    let a = put_cell rs ruleset_width r (rule_cell n 0) ty in
    let b = put_cell a ruleset_width r (rule_cell n 1) key in
    let c = put_cell b ruleset_width r (rule_cell n 2) rights in
    rw (q, u) (
      one_put 3 (n + 1) (omega arith) (one_put (rule_cell n 2) rights (omega arith) (one_put (rule_cell n 1) key (omega arith) (one_put (rule_cell n 0) ty (omega arith) one_none))),
      λ k m. cell_put_beside c ruleset_width r 3 (n + 1) k (omega arith) ∙ cell_put_beside b ruleset_width r (rule_cell n 2) rights k (omega arith) ∙ cell_put_beside a ruleset_width r (rule_cell n 1) key k (omega arith) ∙ cell_put_beside rs ruleset_width r (rule_cell n 0) ty k (omega arith),
    ))
    (λ u. rw (q, u) (one_none, λ k m. refl)))
    (λ q.
    let l = leb-false n p q in
    rw q (one_put (rule_cell p 2) _ (omega arith) one_none, λ k m. cell_put_beside rs ruleset_width r (rule_cell p 2) _ k (omega arith)))

module _ (T : Tables) (r : ℕ) where
  abbrev Frame : Tables → Type 0
  Frame X = (X ≡ with_rulesets T X.rulesets) × OneRow r T.rulesets X.rulesets × (is_open X.rulesets r ≡ true)

  frame : (X : Tables) → Since T r X → Frame X
  frame X B = (B.rest, B.row, B.open_row)

  frame_added : (X : Tables) (ty key rights : ℕ) → Since T r X → Frame (add_done X r ty key rights).left
  unfolding add_done
  frame_added X ty key rights B =
      let S = facts X B.still in
      let small = open_small X.rulesets r S.lengths.rulesets B.open_row in
      let a = added_row X.rulesets r ty key rights (S.rulesets.opened r small B.open_row).few in
      (ap (λ (Y : Tables). with_rulesets Y (added X.rulesets r ty key rights)) B.rest, one_trans B.row a.0, still_open _ X.rulesets r a.1 B.open_row)

  pub since-path : (X : Tables) (e rights : ℕ) → Since T r X → Since T r (path_added X r e rights 0).left
  since-path X e rights B =
      let f : Frame (path_added X r e rights 0).left = unfold path_added in by_call X (add_path_checks X r e rights 0) (add_done X r path_rule (object X.entries e) rights) (λ o. Frame o.left) (λ n. frame X B) (λ s z. frame_added X path_rule (object X.entries e) rights B) in
      record { rest = f.0; row = f.1; open_row = f.2; still = kept-path-added X r e rights 0 B.still }

  pub since-port : (X : Tables) (n rights : ℕ) → Since T r X → Since T r (port_added X r n rights 0).left
  since-port X n rights B =
      let f : Frame (port_added X r n rights 0).left = unfold port_added in by_call X (add_port_checks X r n rights 0) (add_done X r port_rule n rights) (λ o. Frame o.left) (λ e. frame X B) (λ s z. frame_added X port_rule n rights B) in
      record { rest = f.0; row = f.1; open_row = f.2; still = kept-port-added X r n rights 0 B.still }

  -- ---- a close makes the row what it was: free, so zero
  module _ (S : Sound T) (small : r < max_rulesets) (free : is_open T.rulesets r ≡ false) where
    back : (rs : List ℕ) → OneRow r T.rulesets rs → closed_row rs r ≡ T.rulesets
    unfolding closed_row
    back rs O =
        let z : List ℕ = replicate ruleset_width 0 in
        let len = S.lengths.rulesets in
        let long = O.long in
        ext_get_or 0 _ _ (length-copied rs (ruleset_width * r) z ruleset_width ∙ long)
        (λ i h.
        let l = length-copied rs (ruleset_width * r) z ruleset_width in
        let j = i / ruleset_width in
        let k = i % ruleset_width in
        let e : i ≡ ruleset_width * j + k = omega arith in
        split (eqb j r)
        (λ q.
        let same = eqb-true j r q in
        let f : i ≡ ruleset_width * r + k = omega arith in
        rw f (copied_in rs (ruleset_width * r) z ruleset_width k (omega arith) (omega arith) ∙ get_or-zeros ruleset_width k ∙ sym (S.rulesets.closed r small free k (omega arith))))
        (λ q.
        let other = eqb-false j r q in
        let m : k < ruleset_width = omega arith in
        rw e
        (split (ltb j r)
        (λ u. let below = ltb-true j r u in copied-before rs (ruleset_width * r) z ruleset_width (ruleset_width * j + k) (omega arith))
        (λ u. let past = ltb-false j r u in copied-after rs (ruleset_width * r) z ruleset_width (ruleset_width * j + k) (omega arith))
        ∙ O.others j k other m)))

    pub closed_back : (X : Tables) → Since T r X → (closed X r).left ≡ T
    unfolding closed call answer first close_checks close_done
    closed_back X B = rw (B.still, B.open_row) (ap (λ (rs : List ℕ). with_rulesets X rs) (back X.rulesets B.row) ∙ ap (λ (Y : Tables). with_rulesets Y T.rulesets) B.rest)

-- ---- what a create opens
module _ (T : Tables) (bs : List ℕ) (s : sound T ≡ true) (z : first (create_checks T bs 0) ≡ 0) where
  abbrev free-number : ℕ
  free-number = free_ruleset T.rulesets

  pub opens-free : (free-number < max_rulesets) × (is_open T.rulesets free-number ≡ false) × (handles_any (fs_mask bs) (net_mask bs) (scope_mask bs) ≡ true)
  unfolding create_checks create_form create_masks free_ruleset
  opens-free =
      let p = passed (create_checks T bs 0) z in
      let m = p.1.1.1.1 in
      let small : free_ruleset T.rulesets < max_rulesets = ltb-true (free_ruleset T.rulesets) max_rulesets (not-false _ m.1.1.1.0) in
      (small, not-true _ (first_passes (λ r. not (is_open T.rulesets r)) max_rulesets small), not-false _ m.1.1.0)

  made-sound : sound (create_done T bs).left ≡ true
  unfolding created
  made-sound = subst (λ (o : Outcome). sound o.left ≡ true) (sym (call-done T (create_checks T bs 0) (create_done T bs) {b = true} {e = 0} (sym s) refl (sym z) refl)) (kept-created T bs 0 s)

  pub since-create : Since T free-number (create_done T bs).left
  unfolding create_done opened is_open
  since-create =
      let f = opens-free in
      let S = facts T s in
      let len = S.lengths.rulesets in
      let small = f.0 in
      let rs = T.rulesets in
      let r = free-number in
      let a : List ℕ = put_cell rs ruleset_width r 0 (fs_mask bs) in
      let b : List ℕ = put_cell a ruleset_width r 1 (net_mask bs) in
      let c : List ℕ = put_cell b ruleset_width r 2 (scope_mask bs) in
      let la = length-put_cell rs ruleset_width r 0 (fs_mask bs) in
      let lb = length-put_cell a ruleset_width r 1 (net_mask bs) in
      let x : cell c ruleset_width r 0 ≡ fs_mask bs = cell_put_beside b ruleset_width r 2 (scope_mask bs) 0 (omega arith) ∙ cell_put_beside a ruleset_width r 1 (net_mask bs) 0 (omega arith) ∙ cell_put rs ruleset_width r 0 (fs_mask bs) (omega arith) in
      let y : cell c ruleset_width r 1 ≡ net_mask bs = cell_put_beside b ruleset_width r 2 (scope_mask bs) 1 (omega arith) ∙ cell_put a ruleset_width r 1 (net_mask bs) (omega arith) in
      let w : cell c ruleset_width r 2 ≡ scope_mask bs = cell_put b ruleset_width r 2 (scope_mask bs) (omega arith) in
      record {
        rest = refl;
        row = one_put 2 (scope_mask bs) (omega arith) (one_put 1 (net_mask bs) (omega arith) (one_put 0 (fs_mask bs) (omega arith) one_none));
        open_row = rw (x, y, w) f.2;
        still = made-sound;
      }
