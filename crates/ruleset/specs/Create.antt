-- Document 01, "Create" and "Close" of a ruleset.
use Rattle.std.specs.Prelude.{not, List, [], ◌∷◌, ◌++◌, ℕ, ◌*◌, eqb, ltb, length, replicate}
use Rattle.laws.specs.Tests.{first_below}
use Rattle.laws.specs.Refusals.{Check, ◌⇒◌}
use Rattle.laws.specs.Cells.{put_cell, copied}
use Rattle.access.specs.Errno.{EBADF, E2BIG, EINVAL, EMFILE, ENOMSG, EOPNOTSUPP}
use Rattle.access.specs.Limits.{max_rulesets, min_attribute, max_attribute}
use Rattle.access.specs.declared.errno.Reply.TheVariants.{Done}
use Rattle.tables.specs.Tables.{Tables, ruleset_width, level}
use Rattle.tables.specs.Layers.{handles_any, is_open}
use Rattle.tables.specs.Outcome.{Outcome, outcome, with_rulesets}
use Rattle.sound_rules.specs.Rules.{masks_known}
use Rattle.sound.specs.Call.{call}
use Rattle.ruleset.specs.Attribute.{fs_mask, net_mask, scope_mask, known_size, stray}

-- "Closed numbers are used again, lowest first"
unfoldable pub free_ruleset : List ℕ → ℕ
free_ruleset rs = first_below (λ r. not (is_open rs r)) max_rulesets

-- level, flags and the attribute's length
unfoldable pub create_form : List ℕ → List ℕ → ℕ → List Check
create_form sys bs flags =
    eqb (level sys) 0 ⇒ EOPNOTSUPP
    ∷ not (eqb flags 0) ⇒ EINVAL
    ∷ ltb (length bs) min_attribute ⇒ EINVAL
    ∷ ltb max_attribute (length bs) ⇒ E2BIG
    ∷ []

-- what the bytes ask for, and a free number
unfoldable pub create_masks : List ℕ → List ℕ → List ℕ → List Check
create_masks sys rs bs =
    stray bs (known_size (level sys)) ⇒ E2BIG
    ∷ not (masks_known (level sys) (fs_mask bs) (net_mask bs) (scope_mask bs)) ⇒ EINVAL
    ∷ not (handles_any (fs_mask bs) (net_mask bs) (scope_mask bs)) ⇒ ENOMSG
    ∷ not (ltb (free_ruleset rs) max_rulesets) ⇒ EMFILE
    ∷ []

-- "EOPNOTSUPP at level 0; flags not 0 EINVAL; fewer than 8 bytes EINVAL; over 4,096 E2BIG; a nonzero byte past the known size E2BIG;
-- an unknown bit EINVAL; all masks zero ENOMSG; no free ruleset EMFILE"
unfoldable pub create_checks : Tables → List ℕ → ℕ → List Check
create_checks T bs flags = create_form T.system bs flags ++ create_masks T.system T.rulesets bs

-- an open ruleset with no rules
unfoldable pub opened : List ℕ → ℕ → ℕ → ℕ → ℕ → List ℕ
opened rs r fs net scope = put_cell (put_cell (put_cell rs ruleset_width r 0 fs) ruleset_width r 1 net) ruleset_width r 2 scope

-- "A success returns the new .. ruleset .. number"
unfoldable pub create_done : Tables → List ℕ → Outcome
create_done T bs =
    let r = free_ruleset T.rulesets in
    outcome (Done r) (with_rulesets T (opened T.rulesets r (fs_mask bs) (net_mask bs) (scope_mask bs)))

unfoldable pub created : Tables → List ℕ → ℕ → Outcome
created T bs flags = call T (create_checks T bs flags) (create_done T bs)

-- "Close of a ruleset not open is EBADF"
unfoldable pub close_checks : Tables → ℕ → List Check
close_checks T r = not (is_open T.rulesets r) ⇒ EBADF ∷ []

-- a free row is zero
unfoldable pub closed_row : List ℕ → ℕ → List ℕ
closed_row rs r = copied rs (ruleset_width * r) (replicate ruleset_width 0) ruleset_width

unfoldable pub close_done : Tables → ℕ → Outcome
close_done T r = outcome (Done 0) (with_rulesets T (closed_row T.rulesets r))

unfoldable pub closed : Tables → ℕ → Outcome
closed T r = call T (close_checks T r) (close_done T r)
