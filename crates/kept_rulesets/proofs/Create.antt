-- Create and close keep sound tables sound. Assumes nothing.
use mathlib.Core.Path.{◌≡◌, ◌∙◌}
use mathlib.Core.Bool.{true, false, not}
use mathlib.Core.List.{List}
use Prim.Native.Nat.{ℕ, ◌+◌, ◌*◌, ◌≤◌, ◌<◌}
use native.Mathlib.Omega.{arith}
use lib.Dec.{ltb}
use lib.ListN.{length, replicate}
use borrow.Author.Tests.{eqb-false, ltb-true, ltb-false, not-true, not-false}
use Rattle.laws.specs.Cells.{cell, put_cell}
use Rattle.laws.proofs.Bools.{split, clash}
use Rattle.laws.proofs.Tests.{first_passes}
use Rattle.laws.proofs.Refusals.{passed}
use Rattle.laws.proofs.Cells.{cell_put, cell_put_beside, get_or-zeros}
use Rattle.laws.proofs.Copies.{length-copied, copied-before, copied-after, copied_in}
use Rattle.access.specs.Limits.{max_rulesets}
use Rattle.tables.specs.Tables.{Tables, ruleset_width, level, counter}
use Rattle.tables.specs.Layers.{handles_any, is_open}
use Rattle.tables.specs.Outcome.{with_rulesets}
use Rattle.sound_rules.specs.Rules.{masks_known}
use Rattle.sound_rules.proofs.Facts.{masks}
use Rattle.sound.specs.Sound.{sound}
use Rattle.sound.proofs.Facts.{Sound, facts}
use Rattle.ruleset.specs.Attribute.{fs_mask, net_mask, scope_mask}
use Rattle.ruleset.specs.Create.{free_ruleset, create_form, create_masks, create_checks, opened, create_done, created, close_checks, closed_row, close_done, closed}
use Rattle.sound.proofs.Calls.{kept-call}
use Rattle.kept_rulesets.proofs.Rows.{Row, OneRow, one_none, one_put, open_small, kept_row}

-- ---- create: a free row gets its masks
module _ (T : Tables) (S : Sound T) (r fs net scope : ℕ) (small : r < max_rulesets) (shut : is_open T.rulesets r ≡ false)
    (working : level T.system ≡ 0 → ⊥) (known : masks_known (level T.system) fs net scope ≡ true) (some : handles_any fs net scope ≡ true) where
  a : List ℕ
  a = put_cell T.rulesets ruleset_width r 0 fs

  b : List ℕ
  b = put_cell a ruleset_width r 1 net

  c : List ℕ
  c = put_cell b ruleset_width r 2 scope

  a_one : OneRow r T.rulesets a
  unfolding a
  a_one = one_put 0 fs (omega arith) one_none

  b_one : OneRow r T.rulesets b
  unfolding b
  b_one = one_put 1 net (omega arith) a_one

  c_one : OneRow r T.rulesets c
  unfolding c
  c_one = one_put 2 scope (omega arith) b_one

  c-fs : cell c ruleset_width r 0 ≡ fs
  unfolding c b a
  c-fs =
      let long = S.lengths.rulesets in
      cell_put_beside b ruleset_width r 2 scope 0 (omega arith) ∙ cell_put_beside a ruleset_width r 1 net 0 (omega arith) ∙ cell_put T.rulesets ruleset_width r 0 fs (omega arith)

  c-net : cell c ruleset_width r 1 ≡ net
  unfolding c b
  c-net = let long = a_one.long ∙ S.lengths.rulesets in cell_put_beside b ruleset_width r 2 scope 1 (omega arith) ∙ cell_put a ruleset_width r 1 net (omega arith)

  c-scope : cell c ruleset_width r 2 ≡ scope
  unfolding c
  c-scope = let long = b_one.long ∙ S.lengths.rulesets in cell_put b ruleset_width r 2 scope (omega arith)

  c-zero : (k : ℕ) → 3 ≤ k → k < ruleset_width → cell c ruleset_width r k ≡ 0
  unfolding c b a
  c-zero k l m =
      cell_put_beside b ruleset_width r 2 scope k (omega arith)
      ∙ cell_put_beside a ruleset_width r 1 net k (omega arith)
      ∙ cell_put_beside T.rulesets ruleset_width r 0 fs k (omega arith)
      ∙ S.rulesets.closed r small shut k m

  c_open : is_open c r ≡ true
  unfolding is_open
  c_open = rw (c-fs, c-net, c-scope) some

  c_row : Row T.entries (counter T.system) (level T.system) (λ k. cell c ruleset_width r k)
  c_row =
      let n = c-zero 3 (omega arith) (omega arith) in
      record {
        few = omega arith;
        masks = rw (c-fs, c-net, c-scope) (masks (level T.system) fs net scope known);
        rest = λ k l m. c-zero k (omega arith) m;
        each = λ i l. absurd (omega arith);
        apart = λ i j l m t k. absurd (omega arith);
      }

  kept-opened : sound (with_rulesets T (opened T.rulesets r fs net scope)) ≡ true
  unfolding opened c b a
  kept-opened = kept_row T S c r c_one (λ l o. c_row) (λ l o. clash (is_open c r) c_open o) (λ z. absurd (working z))

pub kept-created : (T : Tables) (bs : List ℕ) (flags : ℕ) → sound T ≡ true → sound (created T bs flags).left ≡ true
unfolding created create_done create_checks create_form create_masks free_ruleset
kept-created T bs flags h = kept-call T (create_checks T bs flags) (create_done T bs) (λ z.
    let rs = T.rulesets in
    let p = passed (create_checks T bs flags) z in
    let m = p.1.1.1.1 in
    let small : free_ruleset rs < max_rulesets = ltb-true (free_ruleset rs) max_rulesets (not-false _ m.1.1.1.0) in
    kept-opened T (facts T h) (free_ruleset rs) (fs_mask bs) (net_mask bs) (scope_mask bs) small
    (not-true _ (first_passes (λ r. not (is_open rs r)) max_rulesets small))
    (eqb-false (level T.system) 0 p.0) (not-false _ m.1.0) (not-false _ m.1.1.0)) h

-- ---- close: the row becomes zero
module _ (rs : List ℕ) (r : ℕ) where
  closed_one : OneRow r rs (closed_row rs r)
  unfolding closed_row
  closed_one = record {
    long = length-copied rs (ruleset_width * r) (replicate ruleset_width 0) ruleset_width;
    others = λ j k d m. split (ltb j r)
        (λ q. let l = ltb-true j r q in copied-before rs (ruleset_width * r) (replicate ruleset_width 0) ruleset_width (ruleset_width * j + k) (omega arith))
        (λ q. let g : r ≤ j = ltb-false j r q in copied-after rs (ruleset_width * r) (replicate ruleset_width 0) ruleset_width (ruleset_width * j + k) (omega arith));
  }

  module _ (long : length rs ≡ ruleset_width * max_rulesets) (small : r < max_rulesets) where
    closed-zero : (k : ℕ) → k < ruleset_width → cell (closed_row rs r) ruleset_width r k ≡ 0
    unfolding closed_row
    closed-zero k m = copied_in rs (ruleset_width * r) (replicate ruleset_width 0) ruleset_width k m (omega arith) ∙ get_or-zeros ruleset_width k

    closed_shut : is_open (closed_row rs r) r ≡ false
    unfolding is_open handles_any
    closed_shut = rw (closed-zero 0 (omega arith), closed-zero 1 (omega arith), closed-zero 2 (omega arith))

pub kept-closed : (T : Tables) (r : ℕ) → sound T ≡ true → sound (closed T r).left ≡ true
unfolding closed close_done close_checks
kept-closed T r h = kept-call T (close_checks T r) (close_done T r) (λ z.
    let rs = T.rulesets in
    let S = facts T h in
    let long = S.lengths.rulesets in
    let p = passed (close_checks T r) z in
    let small = open_small rs r long (not-false _ p.0) in
    let shut = closed_shut rs r long small in
    kept_row T S (closed_row rs r) r (closed_one rs r)
    (λ l o. clash (is_open (closed_row rs r) r) o shut) (λ l o. closed-zero rs r long small) (λ e. shut)) h
