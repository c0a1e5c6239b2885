-- Document 01, "Tables are sound if": the clauses on rulesets.
use Rattle.std.specs.Prelude.{Bool, cond, List, [], ◌∷◌, ℕ, ◌+◌, ◌*◌, leb}
use Rattle.laws.specs.Tests.{all_below, all_of}
use Rattle.laws.specs.Cells.{part, zeros}
use Rattle.access.specs.Limits.{max_rulesets, max_rules}
use Rattle.tables.specs.Tables.{ruleset_width}
use Rattle.tables.specs.Layers.{ruleset_count, ruleset_to, ruleset_at, is_open}
use Rattle.sound_rules.specs.Rules.{rules_sound, masks_known}

-- where the row of ruleset r ends
abbrev pub ruleset_end : ℕ → ℕ
ruleset_end r = ruleset_width * r + ruleset_width

-- an open ruleset: "its rules, at most 64"; "bits asked for belong to the level"; its rules; "free space is zero"
unfoldable pub open_sound : List ℕ → ℕ → ℕ → List ℕ → ℕ → Bool
open_sound es next level rs r =
    let L = ruleset_at rs r in
    all_of
    (leb (ruleset_count rs r) max_rules
    ∷ masks_known level L.fs L.net L.scope
    ∷ zeros (part rs (ruleset_to rs r) (ruleset_end r))
    ∷ rules_sound es next L.fs L.net L.rules
    ∷ [])

-- a ruleset that is not open is a free row; one that is open "handles something" by that
unfoldable pub ruleset_sound : List ℕ → ℕ → ℕ → List ℕ → ℕ → Bool
ruleset_sound es next level rs r =
    cond (is_open rs r) (open_sound es next level rs r) (zeros (part rs (ruleset_width * r) (ruleset_end r)))

unfoldable pub rulesets_sound : List ℕ → ℕ → ℕ → List ℕ → Bool
rulesets_sound es next level rs = all_below (ruleset_sound es next level rs) max_rulesets
