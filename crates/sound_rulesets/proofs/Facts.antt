-- What the soundness test of rulesets tells, row by row, and that it tells no more. Assumes nothing.
use mathlib.Core.Path.{◌≡◌, ap, ◌∙◌}
use mathlib.Core.Bool.{true, false}
use mathlib.Core.List.{List}
use Prim.Native.Nat.{ℕ, ◌+◌, ◌-◌, ◌*◌, ◌≤◌, ◌<◌}
use native.Mathlib.Omega.{arith}
use lib.ListN.{get_or}
use borrow.Author.Tests.{leb-true, le-leb}
use Rattle.laws.specs.Cells.{cell}
use Rattle.laws.proofs.Bools.{cond_then, cond_else, cond_of}
use Rattle.laws.proofs.Tests.{all-at, all_of_lem, all_of-at, all_of_of, met, ◌also◌}
use Rattle.laws.proofs.Cells.{zeros-part-at, zeros_part_of}
use Rattle.access.specs.Limits.{max_rules, max_rulesets}
use Rattle.tables.specs.Tables.{ruleset_width}
use Rattle.tables.specs.Layers.{ruleset_count, ruleset_to, ruleset_at, is_open}
use Rattle.sound_rules.proofs.Facts.{Rules, rules, rules-sound, Masks, masks, masks-known}
use Rattle.sound_rulesets.specs.Rulesets.{ruleset_end, open_sound, ruleset_sound, rulesets_sound}

-- the open ruleset r
pub record OpenRuleset (es : List ℕ) (next level : ℕ) (rs : List ℕ) (r : ℕ) : Type 0 where
  -- "its rules, at most 64"
  pub few : ruleset_count rs r ≤ max_rules
  -- "bits asked for belong to the level"
  pub masks : Masks level (ruleset_at rs r).fs (ruleset_at rs r).net (ruleset_at rs r).scope
  -- "free space is zero": the row past its rules
  pub rest : (n : ℕ) → ruleset_to rs r ≤ n → n < ruleset_end r → get_or rs n 0 ≡ 0
  pub rules : Rules es next (ruleset_at rs r).fs (ruleset_at rs r).net (ruleset_at rs r).rules

pub record Rulesets (es : List ℕ) (next level : ℕ) (rs : List ℕ) : Type 0 where
  -- a ruleset that is open "handles something" by that
  pub opened : (r : ℕ) → r < max_rulesets → is_open rs r ≡ true → OpenRuleset es next level rs r
  -- "free space is zero": a row that is not open
  pub closed : (r : ℕ) → r < max_rulesets → is_open rs r ≡ false → (k : ℕ) → k < ruleset_width → cell rs ruleset_width r k ≡ 0

module _ (es : List ℕ) (next level : ℕ) (rs : List ℕ) where
  -- ---- an open row
  module _ (r : ℕ) where
    open_ruleset : open_sound es next level rs r ≡ true → OpenRuleset es next level rs r
    unfolding open_sound
    open_ruleset h =
        record {
          few = leb-true (ruleset_count rs r) max_rules (all_of-at _ 0 h);
          masks = masks level (ruleset_at rs r).fs (ruleset_at rs r).net (ruleset_at rs r).scope (all_of-at _ 1 h);
          rest = zeros-part-at rs (ruleset_to rs r) (ruleset_end r) (all_of-at _ 2 h);
          rules = rules es next (ruleset_at rs r).fs (ruleset_at rs r).net (ruleset_at rs r).rules (all_of-at _ 3 h);
        }

    open_sound_lem : OpenRuleset es next level rs r → open_sound es next level rs r ≡ true
    unfolding open_sound
    open_sound_lem o =
        all_of_of
        (le-leb (ruleset_count rs r) max_rules o.few
        also masks-known level (ruleset_at rs r).fs (ruleset_at rs r).net (ruleset_at rs r).scope o.masks
        also zeros_part_of rs (ruleset_to rs r) (ruleset_end r) o.rest
        also rules-sound es next (ruleset_at rs r).fs (ruleset_at rs r).net (ruleset_at rs r).rules o.rules
        also met)

  -- ---- every row
  pub rulesets : rulesets_sound es next level rs ≡ true → Rulesets es next level rs
  unfolding rulesets_sound ruleset_sound
  rulesets h =
      let one : (r : ℕ) → r < max_rulesets → ruleset_sound es next level rs r ≡ true = λ r l. all-at (ruleset_sound es next level rs) max_rulesets r h l in
      record {
        opened = λ r l o. open_ruleset r (cond_then (is_open rs r) _ _ o (one r l));
        closed = λ r l o k b. zeros-part-at rs (ruleset_width * r) (ruleset_end r) (cond_else (is_open rs r) _ _ o (one r l)) (ruleset_width * r + k) (omega arith) (omega arith);
      }

  pub rulesets-sound : Rulesets es next level rs → rulesets_sound es next level rs ≡ true
  unfolding rulesets_sound ruleset_sound
  rulesets-sound R =
      all_of_lem (ruleset_sound es next level rs) max_rulesets
      (λ r l. cond_of (is_open rs r) _ _ (λ o. open_sound_lem r (R.opened r l o))
      (λ o. zeros_part_of rs (ruleset_width * r) (ruleset_end r) (λ n a b.
      let e : n ≡ ruleset_width * r + (n - ruleset_width * r) = omega arith in
      ap (λ (m : ℕ). get_or rs m 0) e ∙ R.closed r l o (n - ruleset_width * r) (omega arith))))
