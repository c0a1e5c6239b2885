-- The entries picked for path rules, each in the cell of its rule.
use Rattle.std.specs.Prelude.{◌≡◌, Bool, cond, ◌&&◌, List, ℕ, ◌≤◌, ◌<◌, eqb, length, get_or}
use Rattle.laws.specs.Tests.{any_below}
use Rattle.tables.specs.Tables.{object, path_rule, rule_type, rule_key, rule_rights}
use Rattle.sound_rules.specs.Rules.{rule_count}
use Rattle.rule.specs.Rule.{sweeping}
use Rattle.policy_write.specs.Chosen.{chosen}

-- for rule i the entry that is chosen for its object; for a port rule nothing
unfoldable pub pick_of : List ℕ → List ℕ → List ℕ → ℕ → ℕ
pick_of es ns rules i = cond (eqb (rule_type rules i) path_rule) (chosen es ns (rule_key rules i)) 0

pub record Picks (es ns rules picks : List ℕ) : Type 0 where
  pub room : rule_count rules ≤ length picks
  pub picked : (i : ℕ) → i < rule_count rules → get_or picks i 0 ≡ pick_of es ns rules i

-- rule i is a path rule, and its entry passes a test
unfoldable pub pick_at : (ℕ → Bool) → List ℕ → List ℕ → ℕ → Bool
pick_at test rules picks i = eqb (rule_type rules i) path_rule && test (get_or picks i 0)

unfoldable pub any_pick : (ℕ → Bool) → List ℕ → List ℕ → Bool
any_pick test rules picks = any_below (pick_at test rules picks) (rule_count rules)

-- rule i is on the root's object, with a right that W6 forbids there
unfoldable pub sweeps_at : List ℕ → List ℕ → ℕ → Bool
sweeps_at es rules i = eqb (rule_type rules i) path_rule && (eqb (rule_key rules i) (object es 0) && sweeping 0 (rule_rights rules i))
