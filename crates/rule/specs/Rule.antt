-- Document 01, "Add rule (path or port)".
use Rattle.std.specs.Prelude.{Bool, cond, not, ◌&&◌, List, [], ◌∷◌, ◌++◌, ℕ, ◌+◌, ◌*◌, eqb, ltb, leb}
use Rattle.laws.specs.Refusals.{Check, ◌⇒◌}
use Rattle.laws.specs.Cells.{cell, put_cell}
use Rattle.access.specs.Rights.{join, meet, within, write_set}
use Rattle.access.specs.Errno.{EPERM, EBADF, E2BIG, EINVAL, ENOMSG, EOPNOTSUPP}
use Rattle.access.specs.Limits.{max_rules, max_port}
use Rattle.access.specs.declared.errno.Reply.TheVariants.{Done}
use Rattle.tables.specs.Tables.{Tables, ruleset_width, ruleset_head, rule_width, level, object, live, past_file_set, path_rule, port_rule}
use Rattle.tables.specs.Layers.{ruleset_at, ruleset_count, is_open}
use Rattle.tables.specs.Outcome.{Outcome, outcome, with_rulesets}
use Rattle.judge.specs.Rules.{rule_place}
use Rattle.sound.specs.Call.{call}

-- "EOPNOTSUPP; flags not 0 EINVAL; ruleset not open EBADF; rights empty ENOMSG": the same for a path and a port
unfoldable pub add_form : List ℕ → List ℕ → ℕ → ℕ → ℕ → List Check
add_form sys rs r rights flags =
    eqb (level sys) 0 ⇒ EOPNOTSUPP
    ∷ not (eqb flags 0) ⇒ EINVAL
    ∷ not (is_open rs r) ⇒ EBADF
    ∷ eqb rights 0 ⇒ ENOMSG
    ∷ []

-- where the rule for the key stands in the ruleset
abbrev pub place_in : List ℕ → ℕ → ℕ → ℕ → ℕ
place_in rs r ty key = rule_place (ruleset_at rs r).rules ty key

-- "a new object or port with 64 rules present"
unfoldable pub is_full : List ℕ → ℕ → ℕ → ℕ → Bool
is_full rs r ty key = leb (ruleset_count rs r) (place_in rs r ty key) && leb max_rules (ruleset_count rs r)

-- document 02, W6: "A path rule on the root that asks for any of" the write set. The root is entry 0
unfoldable pub sweeping : ℕ → ℕ → Bool
sweeping e rights = eqb e 0 && not (eqb (meet rights write_set) 0)

-- "rights outside those handled EINVAL (REFER must be handled explicitly); entry not live EBADF, entry no directory and rights outside the file set EINVAL";
-- then E2BIG. W6: "EPERM, directly after the entry's EBADF"
unfoldable pub path_form : List ℕ → List ℕ → ℕ → ℕ → ℕ → List Check
path_form es rs r e rights =
    not (within rights (ruleset_at rs r).fs) ⇒ EINVAL
    ∷ not (live es e) ⇒ EBADF
    ∷ sweeping e rights ⇒ EPERM
    ∷ past_file_set es e rights ⇒ EINVAL
    ∷ is_full rs r path_rule (object es e) ⇒ E2BIG
    ∷ []

-- "rights outside those handled EINVAL; port: above 65,535 EINVAL"; then E2BIG
unfoldable pub port_form : List ℕ → ℕ → ℕ → ℕ → List Check
port_form rs r port rights =
    not (within rights (ruleset_at rs r).net) ⇒ EINVAL
    ∷ ltb max_port port ⇒ EINVAL
    ∷ is_full rs r port_rule port ⇒ E2BIG
    ∷ []

unfoldable pub add_path_checks : Tables → ℕ → ℕ → ℕ → ℕ → List Check
add_path_checks T r e rights flags = add_form T.system T.rulesets r rights flags ++ path_form T.entries T.rulesets r e rights

unfoldable pub add_port_checks : Tables → ℕ → ℕ → ℕ → ℕ → List Check
add_port_checks T r port rights flags = add_form T.system T.rulesets r rights flags ++ port_form T.rulesets r port rights

-- cell k of rule i, in the row of its ruleset
abbrev pub rule_cell : ℕ → ℕ → ℕ
rule_cell i k = ruleset_head + (rule_width * i + k)

-- "A rule for an object or port already there joins the rights"
unfoldable pub joined : List ℕ → ℕ → ℕ → ℕ → List ℕ
joined rs r i rights = put_cell rs ruleset_width r (rule_cell i 2) (join (cell rs ruleset_width r (rule_cell i 2)) rights)

-- "Rules stand in the order first added": rule i is the next
unfoldable pub appended : List ℕ → ℕ → ℕ → ℕ → ℕ → ℕ → List ℕ
appended rs r i ty key rights =
    let a = put_cell rs ruleset_width r (rule_cell i 0) ty in
    let b = put_cell a ruleset_width r (rule_cell i 1) key in
    let c = put_cell b ruleset_width r (rule_cell i 2) rights in
    put_cell c ruleset_width r 3 (i + 1)

-- a new rule if there is none for the key, and room for one
unfoldable pub added : List ℕ → ℕ → ℕ → ℕ → ℕ → List ℕ
added rs r ty key rights =
    cond (leb (ruleset_count rs r) (place_in rs r ty key))
    (cond (ltb (ruleset_count rs r) max_rules) (appended rs r (ruleset_count rs r) ty key rights) rs)
    (joined rs r (place_in rs r ty key) rights)

unfoldable pub add_done : Tables → ℕ → ℕ → ℕ → ℕ → Outcome
add_done T r ty key rights = outcome (Done 0) (with_rulesets T (added T.rulesets r ty key rights))

unfoldable pub path_added : Tables → ℕ → ℕ → ℕ → ℕ → Outcome
path_added T r e rights flags = call T (add_path_checks T r e rights flags) (add_done T r path_rule (object T.entries e) rights)

unfoldable pub port_added : Tables → ℕ → ℕ → ℕ → ℕ → Outcome
port_added T r port rights flags = call T (add_port_checks T r port rights flags) (add_done T r port_rule port rights)
