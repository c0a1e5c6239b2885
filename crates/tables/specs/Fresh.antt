-- Fresh tables.
use Rattle.std.specs.Prelude.{not, List, [], ◌∷◌, ℕ, ◌*◌, ltb, length, set, replicate}
use Rattle.laws.specs.Refusals.{Check, ◌⇒◌}
use Rattle.access.specs.Errno.{EIO, EINVAL}
use Rattle.access.specs.Kinds.{directory}
use Rattle.access.specs.Limits.{max_level, max_entries, max_rulesets, max_layers, max_pool, max_threads}
use Rattle.access.specs.declared.errno.Reply.TheVariants.{Done}
use Rattle.tables.specs.Tables.{Tables, tables, lengths_right, system_width, entry_width, ruleset_width, layer_width, rule_width, thread_width}
use Rattle.tables.specs.Outcome.{Outcome, outcome, answer}

-- "Fresh tables hold entry 0 (a directory, object 0, its own parent), thread 0 with no layer and both marks off, and a caller-chosen level"; "Anything free is zero".
-- Object 0 is taken, so the next is 1. Here with the number of cells of each table
abbrev pub blank : ℕ → ℕ → ℕ → ℕ → ℕ → ℕ → ℕ → Tables
blank sys es rs ls ps ts level =
    tables
    (set (set (replicate sys 0) 0 level) 1 1)
    (set (replicate es 0) 0 directory)
    (replicate rs 0)
    (replicate ls 0)
    (replicate ps 0)
    (set (replicate ts 0) 0 1)

unfoldable pub fresh_tables : ℕ → Tables
fresh_tables level = blank system_width (entry_width * max_entries) (ruleset_width * max_rulesets) (layer_width * max_layers) (rule_width * max_pool) (thread_width * max_threads) level

-- tables of any lengths made fresh
unfoldable pub filled : Tables → ℕ → Tables
filled T level = blank (length T.system) (length T.entries) (length T.rulesets) (length T.layers) (length T.pool) (length T.threads) level

-- "tables of wrong length are EIO, then another level than 0 to 6 is EINVAL"
unfoldable pub fresh_checks : Tables → ℕ → List Check
fresh_checks T level = not (lengths_right T) ⇒ EIO ∷ ltb max_level level ⇒ EINVAL ∷ []

unfoldable pub freshened : Tables → ℕ → Outcome
freshened T level = answer T (fresh_checks T level) (outcome (Done 0) (fresh_tables level))
