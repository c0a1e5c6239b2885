-- The fields of rules, one after another, and how long they are.
use Rattle.std.specs.Prelude.{◌≡◌, List, [], ◌++◌, ℕ, zero, suc, ◌+◌, ◌≤◌, ◌<◌, length, get_or}
use Rattle.access.specs.Limits.{max_rules}
use Rattle.tables.specs.Tables.{rule_key, rule_rights}
use Rattle.names.specs.Paths.{max_path, path_of}
use Rattle.policy.specs.Fields.{header}
use Rattle.policy.specs.Grammar.{rights_size}
use Rattle.policy.specs.Meaning.{path, port}
use Rattle.policy_write.specs.Written.{rule_bytes}

-- the field of path rule i, with the path of the entry that is picked for it
unfoldable pub path_field : List ℕ → List ℕ → List ℕ → List ℕ → ℕ → List ℕ
path_field es ns rules picks i = rule_bytes (path (rule_rights rules i) (path_of es ns (get_or picks i 0)))

-- the field of port rule i
unfoldable pub port_field : List ℕ → ℕ → List ℕ
port_field rules i = rule_bytes (port (rule_rights rules i) (rule_key rules i))

-- the fields of the rules whose numbers stand in the first k cells
unfoldable pub fields_in : (ℕ → List ℕ) → List ℕ → ℕ → List ℕ
fields_in field order zero = []
fields_in field order (suc k) = fields_in field order k ++ field (get_or order k 0)

-- how long the field of path rule i is
abbrev pub path_size : List ℕ → List ℕ → List ℕ → ℕ → ℕ
path_size es ns picks i = header + (rights_size + length (path_of es ns (get_or picks i 0)))

-- how long it is at most
abbrev pub max_path_size : ℕ
max_path_size = header + (rights_size + max_path)

-- the sum over the rules whose numbers stand in the first k cells
unfoldable pub sum_in : (ℕ → ℕ) → List ℕ → ℕ → ℕ
sum_in size order zero = 0
sum_in size order (suc k) = sum_in size order k + size (get_or order k 0)

-- the rules whose numbers stand in the first k cells are picked for, with no over-long path
pub record Short (es ns picks order : List ℕ) (k : ℕ) : Type 0 where
  pub few : k ≤ max_rules
  pub room : k ≤ length order
  pub known : (j : ℕ) → j < k → get_or order j 0 < length picks
  pub short : (j : ℕ) → j < k → length (path_of es ns (get_or picks (get_or order j 0) 0)) ≤ max_path
