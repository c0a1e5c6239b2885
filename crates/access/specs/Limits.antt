-- The limits of document 01, as document 02 raises two of them, one name each.
use Rattle.std.specs.Prelude.{ℕ}

-- "Level": 0 (Landlock disabled) to 6
abbrev pub max_level : ℕ
max_level = 6

-- "Entries, at most 1,024"
abbrev pub max_entries : ℕ
max_entries = 1024

-- "Rulesets, at most 16"
abbrev pub max_rulesets : ℕ
max_rulesets = 16

-- "64 rules each"
abbrev pub max_rules : ℕ
max_rules = 64

-- document 02, W5: "the layer records to 256"
abbrev pub max_layers : ℕ
max_layers = 256

-- "the shared rule pool of 1,024 rules"
abbrev pub max_pool : ℕ
max_pool = 1024

-- "Threads, at most 8"
abbrev pub max_threads : ℕ
max_threads = 8

-- document 02, W5: "the domain limit to 64"
abbrev pub max_domain : ℕ
max_domain = 64

-- "Object numbers go up to 4,294,967,295": the counter of the next one ends one above it
abbrev pub max_counter : ℕ
max_counter = 4294967296

-- the last port
abbrev pub max_port : ℕ
max_port = 65535

-- "fewer than 8 bytes", "over 4,096": the bytes of an attribute
abbrev pub min_attribute : ℕ
min_attribute = 8

abbrev pub max_attribute : ℕ
max_attribute = 4096
