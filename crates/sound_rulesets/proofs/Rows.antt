-- How code comes to the test of a ruleset, from the cells that it reads. Assumes nothing.
use mathlib.Core.Path.{◌≡◌, sym, ◌∙◌}
use mathlib.Core.Bool.{Bool, true, false, not}
use mathlib.Core.List.{List, [], ◌∷◌}
use Prim.Native.Nat.{ℕ, ◌*◌}
use native.Mathlib.Nat.{add-zero}
use lib.Dec.{leb}
use lib.ListN.{get_or}
use borrow.Author.Tests.{not-true, not-false}
use Rattle.laws.specs.Tests.{all_of}
use Rattle.laws.specs.Cells.{cell, part, zeros}
use Rattle.access.specs.Limits.{max_rules}
use Rattle.tables.specs.Tables.{ruleset_width}
use Rattle.tables.specs.Layers.{handles_any, ruleset_count, ruleset_from, ruleset_to, ruleset_at, is_open}
use Rattle.sound_rules.specs.Rules.{rules_sound, masks_known}
use Rattle.sound_rulesets.specs.Rulesets.{ruleset_end, open_sound, ruleset_sound}

-- a ruleset is open, by its masks
module _ (rs : List ℕ) (r : ℕ) where
  abbrev fs : ℕ
  fs = get_or rs (ruleset_width * r) 0

  abbrev net : ℕ
  net = cell rs ruleset_width r 1

  abbrev scope : ℕ
  scope = cell rs ruleset_width r 2

  pub open_cells : {b : Bool} → b ≡ handles_any fs net scope → b ≡ is_open rs r
  unfolding is_open
  open_cells h = rw (add-zero (ruleset_width * r)) h

module _ (es : List ℕ) (next level : ℕ) (rs : List ℕ) (r : ℕ) {b q : Bool} (h : b ≡ handles_any (fs rs r) (net rs r) (scope rs r)) where
  pub row_closed : not b ≡ true → q ≡ zeros (part rs (ruleset_width * r) (ruleset_end r)) → q ≡ ruleset_sound es next level rs r
  unfolding ruleset_sound
  row_closed n k = rw (sym (open_cells rs r h) ∙ not-true b n) k

  pub row_open : not b ≡ false
      → q ≡ all_of (leb (ruleset_count rs r) max_rules ∷ masks_known level (fs rs r) (net rs r) (scope rs r) ∷ zeros (part rs (ruleset_to rs r) (ruleset_end r)) ∷ rules_sound es next (fs rs r) (net rs r) (part rs (ruleset_from r) (ruleset_to rs r)) ∷ [])
      → q ≡ ruleset_sound es next level rs r
  unfolding ruleset_sound open_sound ruleset_at
  row_open n k = rw (sym (open_cells rs r h) ∙ not-false b n, add-zero (ruleset_width * r)) k
