-- A layer's rules: the part of the pool that holds them, and the rights of a rule.
use Rattle.std.specs.Prelude.{Bool, ◌&&◌, List, ℕ, ◌/◌, eqb, length}
use Rattle.laws.specs.Tests.{first_below}
use Rattle.tables.specs.Tables.{rule_width, rule_type, rule_key, rule_rights}

-- rule i is of the type and for the key
unfoldable pub is_rule : List ℕ → ℕ → ℕ → ℕ → Bool
is_rule rules ty key i = eqb (rule_key rules i) key && eqb (rule_type rules i) ty

-- where the rule for a key stands; the number of rules if there is none
unfoldable pub rule_place : List ℕ → ℕ → ℕ → ℕ
rule_place rules ty key = first_below (is_rule rules ty key) (length rules / rule_width)

-- the rights that its rule gives a key; none if there is no rule
unfoldable pub rights_on : List ℕ → ℕ → ℕ → ℕ
rights_on rules ty key = rule_rights rules (rule_place rules ty key)
