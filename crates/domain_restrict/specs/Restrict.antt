-- Document 01, "Restrict", with document 02, W13: a thread takes the lowest free layer record, made of a ruleset.
use Rattle.std.specs.Prelude.{Bool, cond, not, ◌&&◌, ◌||◌, List, [], ◌∷◌, ◌++◌, ℕ, ◌+◌, ◌*◌, eqb, ltb, leb, length, set}
use Rattle.laws.specs.Tests.{first_below}
use Rattle.laws.specs.Refusals.{Check, ◌⇒◌}
use Rattle.laws.specs.Cells.{put_cell, copied}
use Rattle.access.specs.Errno.{EPERM, ESRCH, E2BIG, EBADF, ENOMEM, EINVAL, EOPNOTSUPP}
use Rattle.access.specs.Limits.{max_layers, max_pool, max_domain}
use Rattle.access.specs.declared.errno.Reply.TheVariants.{Done}
use Rattle.tables.specs.Tables.{Tables, tables, layer_width, rule_width, thread_width, level, layers_used, pool_used, youngest, no_new_privs, admin, thread_live}
use Rattle.tables.specs.Layers.{ruleset_at, ruleset_count, is_open, layer_in_use}
use Rattle.tables.specs.Outcome.{Outcome, outcome}
use Rattle.judge.specs.Domain.{domain}
use Rattle.sound.specs.Call.{call}

-- "neither mark set"
unfoldable pub unmarked : List ℕ → ℕ → Bool
unmarked ts t = eqb (no_new_privs ts t) 0 && eqb (admin ts t) 0

-- "thread not live ESRCH; EOPNOTSUPP; neither mark set EPERM; flags not 0 EINVAL"
unfoldable pub restrict_form : List ℕ → List ℕ → ℕ → ℕ → List Check
restrict_form sys ts t flags =
    not (thread_live ts t) ⇒ ESRCH
    ∷ eqb (level sys) 0 ⇒ EOPNOTSUPP
    ∷ unmarked ts t ⇒ EPERM
    ∷ not (eqb flags 0) ⇒ EINVAL
    ∷ []

-- "16 layers already"; document 02, W5: 64
unfoldable pub is_deep : List ℕ → List ℕ → ℕ → Bool
is_deep ls ts t = leb max_domain (length (domain ls ts t))

-- "no layer record or too few free pool rules"
unfoldable pub no_room : List ℕ → List ℕ → ℕ → Bool
no_room sys rs r = leb max_layers (layers_used sys) || ltb max_pool (pool_used sys + ruleset_count rs r)

-- "ruleset not open EBADF; 16 layers already E2BIG (64 by W5); no layer record or too few free pool rules ENOMEM"
unfoldable pub restrict_room : Tables → ℕ → ℕ → List Check
restrict_room T t r =
    not (is_open T.rulesets r) ⇒ EBADF
    ∷ is_deep T.layers T.threads t ⇒ E2BIG
    ∷ no_room T.system T.rulesets r ⇒ ENOMEM
    ∷ []

unfoldable pub restrict_checks : Tables → ℕ → ℕ → ℕ → List Check
restrict_checks T t r flags = restrict_form T.system T.threads t flags ++ restrict_room T t r

-- "A new layer takes the lowest free record"
unfoldable pub free_layer : List ℕ → ℕ
free_layer ls = first_below (λ l. not (layer_in_use ls l)) max_layers

-- a layer's row: parent (its number + 1, or 0), the masks asked for, the first pool rule, the number of rules, and one holder, the thread.
-- The parent's holders stay as many: the new layer for the thread.
-- An empty run stores 0 as its first rule (docs/DECISIONS.md)
unfoldable pub layer_row : List ℕ → ℕ → ℕ → ℕ → ℕ → ℕ → ℕ → ℕ → List ℕ
layer_row ls l parent fs net scope first count =
    let a = put_cell ls layer_width l 0 parent in
    let b = put_cell a layer_width l 1 fs in
    let c = put_cell b layer_width l 2 net in
    let d = put_cell c layer_width l 3 scope in
    let e = put_cell d layer_width l 4 (cond (eqb count 0) 0 first) in
    let f = put_cell e layer_width l 5 count in
    put_cell f layer_width l 6 1

-- "the next pool places": the number of layers used, then the pool rules used
unfoldable pub counted : List ℕ → ℕ → List ℕ
counted sys count = set (set sys 2 (layers_used sys + 1)) 3 (pool_used sys + count)

-- "The rules are copied at that moment"; the new layer's parent is the thread's youngest layer, and it is the youngest now
unfoldable pub restricted : Tables → ℕ → ℕ → Tables
restricted T t r =
    let L = ruleset_at T.rulesets r in
    let n = ruleset_count T.rulesets r in
    let l = free_layer T.layers in
    let p = pool_used T.system in
    tables
    (counted T.system n)
    T.entries
    T.rulesets
    (layer_row T.layers l (youngest T.threads t) L.fs L.net L.scope p n)
    (copied T.pool (rule_width * p) L.rules (length L.rules))
    (put_cell T.threads thread_width t 1 (l + 1))

unfoldable pub restrict_done : Tables → ℕ → ℕ → Outcome
restrict_done T t r = outcome (Done 0) (restricted T t r)

unfoldable pub restrict_call : Tables → ℕ → ℕ → ℕ → Outcome
restrict_call T t r flags = call T (restrict_checks T t r flags) (restrict_done T t r)
