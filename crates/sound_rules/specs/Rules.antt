-- Document 01, "Tables are sound if": the clauses on rules, the same for rulesets and layers.
use Rattle.std.specs.Prelude.{Bool, true, false, cond, not, ◌&&◌, List, [], ◌∷◌, ℕ, ◌/◌, eqb, ltb, leb, length}
use Rattle.laws.specs.Tests.{all_below, any_below, all_of}
use Rattle.access.specs.Rights.{within, file_set, known_fs, known_net, known_scope}
use Rattle.access.specs.Limits.{max_entries, max_port}
use Rattle.tables.specs.Tables.{object, live, is_dir, rule_width, path_rule, port_rule, rule_type, rule_key, rule_rights}

-- entry e is live, no directory, and of the object
unfoldable pub is_file_of : List ℕ → ℕ → ℕ → Bool
is_file_of es o e = eqb (object es e) o && (live es e && not (is_dir es e))

-- "a live non-directory's object"
unfoldable pub file_object : List ℕ → ℕ → Bool
file_object es o = any_below (is_file_of es o) max_entries

-- "on a live non-directory's object only from the file set"
unfoldable pub rights_fit : List ℕ → ℕ → ℕ → Bool
rights_fit es o rights = cond (within rights file_set) true (not (file_object es o))

-- an object "below the counter"; "grant something, all of it asked to be handled"
unfoldable pub path_sound : List ℕ → ℕ → ℕ → ℕ → ℕ → Bool
path_sound es next fs o rights = all_of (ltb o next ∷ not (eqb rights 0) ∷ within rights fs ∷ rights_fit es o rights ∷ [])

-- "ports .. are in range"; "grant something, all of it asked to be handled"
unfoldable pub port_sound : ℕ → ℕ → ℕ → Bool
port_sound net port rights = all_of (leb port max_port ∷ not (eqb rights 0) ∷ within rights net ∷ [])

-- a rule, by its three cells: for a path or for a port
unfoldable pub cells_sound : List ℕ → ℕ → ℕ → ℕ → ℕ → ℕ → ℕ → Bool
cells_sound es next fs net ty key rights =
    cond (eqb ty path_rule) (path_sound es next fs key rights) (cond (eqb ty port_rule) (port_sound net key rights) false)

-- rule i of a list of rules
unfoldable pub rule_sound : List ℕ → ℕ → ℕ → ℕ → List ℕ → ℕ → Bool
rule_sound es next fs net rules i = cells_sound es next fs net (rule_type rules i) (rule_key rules i) (rule_rights rules i)

-- rules i and j are for the same object, or for the same port
unfoldable pub same_key : List ℕ → ℕ → ℕ → Bool
same_key rules i j = eqb (rule_key rules i) (rule_key rules j) && eqb (rule_type rules i) (rule_type rules j)

-- "distinct objects or ports": rule i against every rule before it
unfoldable pub new_key : List ℕ → ℕ → Bool
new_key rules i = all_below (λ j. not (same_key rules i j)) i

-- how many rules the cells hold
abbrev pub rule_count : List ℕ → ℕ
rule_count rules = length rules / rule_width

unfoldable pub rules_sound : List ℕ → ℕ → ℕ → ℕ → List ℕ → Bool
rules_sound es next fs net rules =
    all_of (all_below (rule_sound es next fs net rules) (rule_count rules) ∷ all_below (new_key rules) (rule_count rules) ∷ [])

-- "bits asked for belong to the level"
unfoldable pub masks_known : ℕ → ℕ → ℕ → ℕ → Bool
masks_known level fs net scope = all_of (within fs (known_fs level) ∷ within net (known_net level) ∷ within scope (known_scope level) ∷ [])
