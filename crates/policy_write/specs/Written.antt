-- Request W12, "write the W4 file": the bytes of a file with one ruleset and no groups.
use Rattle.std.specs.Prelude.{List, [], ◌∷◌, ◌++◌, ℕ, ◌/◌, ◌%◌, length}
use Rattle.tables.specs.Layers.{Layer}
use Rattle.policy.specs.Fields.{bytes_of, ruleset_tag, masks_tag, path_tag, port_tag}
use Rattle.policy.specs.Grammar.{rights_size}
use Rattle.policy.specs.Meaning.{Rule, path, port}

-- "a one-byte tag and a two-byte little-endian length, then the value"
unfoldable pub field_bytes : ℕ → List ℕ → List ℕ
field_bytes t v = t ∷ length v % 256 ∷ length v / 256 ∷ v

-- "tag 3 a path rule (8-byte rights, then the path), tag 4 a port rule (8-byte rights, 2-byte port)"; "each right set whole"
unfoldable pub rule_bytes : Rule → List ℕ
rule_bytes (path rights p) = field_bytes path_tag (bytes_of rights_size rights ++ p)
rule_bytes (port rights n) = field_bytes port_tag (bytes_of rights_size rights ++ bytes_of 2 n)

unfoldable pub rules_bytes : List Rule → List ℕ
rules_bytes [] = []
rules_bytes (q ∷ qs) = rule_bytes q ++ rules_bytes qs

-- "its three masks (24 bytes)"
unfoldable pub masks_bytes : Layer → List ℕ
masks_bytes L = bytes_of 8 L.fs ++ (bytes_of 8 L.net ++ bytes_of 8 L.scope)

-- "Tag 1 opens a ruleset", "Tag 2 follows tag 1 at once, rules follow it"
unfoldable pub written : List ℕ → Layer → List Rule → List ℕ
written name L rules = field_bytes ruleset_tag name ++ (field_bytes masks_tag (masks_bytes L) ++ rules_bytes rules)
